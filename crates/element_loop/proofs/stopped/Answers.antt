use Rattle.element_loop.proofs.LoopLaws.{stops-paused, stops-finished}
use Rattle.element_loop.proofs.stopped.Goals as goal

pub returns-then-passed-remaining : goal.returns-then-passed-remaining
returns-then-passed-remaining c = search stops-paused

pub returns : goal.returns
returns c = search stops-finished
