use Rattle.turn.proofs.finished.Goals as goal

pub returns : goal.returns
returns c = rw (c.answered.ensures, c.dirtied.ensures)
