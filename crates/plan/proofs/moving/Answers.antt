use Rattle.plan.specs.Plan.{moving_of}
use borrow.Author.Rules.{rules}
use Rattle.plan.proofs.moving.Goals as goal

pub read_if-vd-requires : goal.read_if-vd-requires
unfolding moving_of
read_if-vd-requires c = search rules

pub returns : goal.returns
unfolding moving_of
returns c = rw c.read_if-vd.ensures
