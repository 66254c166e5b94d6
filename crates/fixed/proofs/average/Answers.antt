use Rattle.fixed.proofs.AverageLaws.{sum-half}
use Rattle.fixed.proofs.average.Goals as goal

pub returns : goal.returns
returns c = search sum-half
