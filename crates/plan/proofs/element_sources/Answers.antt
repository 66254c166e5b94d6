use Rattle.plan.proofs.SourceLaws.{element-listed}
use Rattle.plan.proofs.element_sources.Goals as goal

pub returns : goal.returns
returns c = search element-listed
