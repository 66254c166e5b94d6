use Rattle.kernel.proofs.KernelLaws.{sweeping-none, sweeping-more, sweeping-done}
use Rattle.kernel.proofs.kernel.Goals as goal

pub loop-i-init : goal.loop-i-init
loop-i-init g c = search sweeping-none

pub loop-i-preserved : goal.loop-i-preserved
loop-i-preserved g c = search sweeping-more

pub returns : goal.returns
returns g c = search sweeping-done
