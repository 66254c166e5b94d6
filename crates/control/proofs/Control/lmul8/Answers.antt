use Rattle.control.proofs.Laws.{lmul8-whole, lmul8-fraction}
use Rattle.control.proofs.Control.lmul8.Goals as goal

pub returns-then-k-lt4 : goal.returns-then-k-lt4
returns-then-k-lt4 c = search lmul8-whole

pub returns : goal.returns
returns c = search lmul8-fraction
