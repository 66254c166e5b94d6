use Rattle.control.proofs.Control.set_if.Goals as goal

pub returns-then-allowed : goal.returns-then-allowed
returns-then-allowed c = rw (c.set_to.ensures, c.if-allowed.true)

pub returns-else-allowed : goal.returns-else-allowed
returns-else-allowed c = rw (c.set_to-else-allowed.ensures, c.if-allowed.false)
