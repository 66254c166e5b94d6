use Rattle.fixed.proofs.AverageLaws.{vasub-is}
use Rattle.fixed.proofs.asub.Goals as goal

pub returns : goal.returns
returns c = search vasub-is
