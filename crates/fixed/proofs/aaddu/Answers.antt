use Rattle.fixed.proofs.AverageLaws.{vaaddu-is}
use Rattle.fixed.proofs.aaddu.Goals as goal

pub returns : goal.returns
returns c = search vaaddu-is
