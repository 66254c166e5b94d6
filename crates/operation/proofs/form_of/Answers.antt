use Rattle.std.proofs.Common.{rules}
use Rattle.operation.proofs.form_of.Goals as goal

pub returns-in-Vadd : goal.returns-in-Vadd
returns-in-Vadd c = search rules
