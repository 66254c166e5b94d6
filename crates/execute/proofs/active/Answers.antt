use Rattle.execute.proofs.active.Goals as goal

pub returns : goal.returns
returns c = rw (c.if-not-masked.false, ← c.read_element.ensures.0)
