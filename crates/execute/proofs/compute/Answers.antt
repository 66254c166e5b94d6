use Rattle.execute.proofs.StepLaws.{computed}
use Rattle.execute.proofs.compute.Goals as goal

pub returns : goal.returns
returns c = search computed
