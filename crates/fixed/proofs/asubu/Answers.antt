use Rattle.fixed.proofs.AverageLaws.{vasubu-is}
use Rattle.fixed.proofs.asubu.Goals as goal

pub returns : goal.returns
returns c = search vasubu-is
