use Rattle.control.proofs.Control.set_to.Goals as goal

pub returns : goal.returns
returns c = rw (c.with_vstart.ensures, c.with_vtype.ensures)
