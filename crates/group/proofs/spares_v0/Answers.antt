-- `spares_v0` meets its contract. Assumes nothing.
use mathlib.Core.Bool.{or_assoc}
use Rattle.group.specs.Group.{spares_v0}
use Rattle.group.proofs.spares_v0.Goals as goal

pub returns : goal.returns
unfolding spares_v0
returns c = simp or_assoc
