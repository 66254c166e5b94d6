use Rattle.laws.proofs.Chain.{chain}
use Rattle.plan.proofs.immediate.Goals as goal

pub returns-then-unsigned : goal.returns-then-unsigned
returns-then-unsigned c = search chain

pub returns : goal.returns
returns c = search chain
