use Rattle.fixed.proofs.AverageLaws.{vaadd-is}
use Rattle.fixed.proofs.aadd.Goals as goal

pub returns : goal.returns
returns c = search vaadd-is
