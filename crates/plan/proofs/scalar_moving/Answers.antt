use Rattle.plan.specs.Plan.{scalar_moving_of}
use borrow.Author.Rules.{rules}
use Rattle.plan.proofs.scalar_moving.Goals as goal

pub sew-requires : goal.sew-requires
unfolding scalar_moving_of
sew-requires c = search rules

pub register_at-vector-requires : goal.register_at-vector-requires
unfolding scalar_moving_of
register_at-vector-requires c = search rules

pub returns : goal.returns
unfolding scalar_moving_of
returns c = rw (c.register_at-vector.ensures, c.sew.ensures)
