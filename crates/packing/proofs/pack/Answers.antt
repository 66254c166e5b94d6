use Rattle.packing.proofs.PackLaws.{walked_none, walked_more, walked_all, reachable-here}
use Rattle.packing.proofs.pack.Goals as goal

pub loop-i-init : goal.loop-i-init
loop-i-init c = walked_none _ _ _ _

pub step-n-requires : goal.step-n-requires
step-n-requires c = search reachable-here

pub loop-i-preserved : goal.loop-i-preserved
loop-i-preserved c = search walked_more

pub returns : goal.returns
returns c = search walked_all
