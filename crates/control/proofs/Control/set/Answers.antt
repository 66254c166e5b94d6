use Rattle.control.specs.Control.{set_of}
use Rattle.control.proofs.Control.set.Goals as goal

pub returns-in-Some : goal.returns-in-Some
unfolding set_of
returns-in-Some c = rw (
  c.in-Some.is,
  c.set_if.ensures,
  c.min.ensures,
  c.vlmax.ensures,
  c.supported-supported.ensures,
)

pub returns-in-None : goal.returns-in-None
unfolding set_of
returns-in-None c = rw (
  c.in-None.is,
  c.set_if-in-None.ensures,
  c.keeps.ensures,
  c.supported-supported.ensures,
)
