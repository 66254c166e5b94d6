use Rattle.element_loop.proofs.LoopLaws.{ended_is}
use Rattle.element_loop.proofs.ended.Goals as goal

pub returns : goal.returns
returns c = search ended_is
