use Rattle.execute.proofs.StepLaws.{moving-more, moving-done}
use Rattle.execute.proofs.move_fields.Goals as goal

pub loop-preserved : goal.loop-preserved
loop-preserved c = search moving-more

pub returns : goal.returns
returns c = search moving-done
