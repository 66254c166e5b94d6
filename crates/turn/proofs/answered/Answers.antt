use Rattle.turn.proofs.answered.Goals as goal

pub returns : goal.returns
returns c = rw c.nowhere-place.ensures
