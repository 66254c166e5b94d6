use Rattle.legality.proofs.reduction_placed.Goals as goal

pub returns : goal.returns
returns c = rw c.placed.ensures
