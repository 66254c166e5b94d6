use Rattle.laws.proofs.Chain.{chain}
use Rattle.plan.proofs.scalar.Goals as goal

pub returns-then-r-eq0 : goal.returns-then-r-eq0
returns-then-r-eq0 c = search chain

pub returns : goal.returns
returns c = search chain
