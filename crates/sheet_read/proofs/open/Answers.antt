use Rattle.sheet_read.proofs.LineLaws.{opened-none, opened-more}
use Rattle.sheet_read.proofs.open.Goals as goal

pub loop-i-init : goal.loop-i-init
loop-i-init c = search opened-none

pub loop-i-preserved : goal.loop-i-preserved
loop-i-preserved c = search opened-more
