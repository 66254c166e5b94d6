use Rattle.control.proofs.Control.keeps.Goals as goal

pub returns : goal.returns
returns c = rw (c.vlmax.ensures, c.vlmax-2.ensures)
