use Rattle.sheet.proofs.Printing.{three}
use borrow.Author.Rules.{rules}
use Rattle.sheet.proofs.print_scalars.Goals as goal

pub returns : goal.returns
returns c = (search three, search rules)
