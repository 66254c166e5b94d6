use borrow.Author.Tests.{eq-eqb, ne_eqb}
use Rattle.control.specs.Control.{typed_well_of}
use Rattle.control.proofs.Control.typed_well.Goals as goal

pub returns-then-self-eq-VILL : goal.returns-then-self-eq-VILL
unfolding typed_well_of
returns-then-self-eq-VILL c = rw (eq-eqb _ _ c.if-self-eq-VILL.true)

pub returns : goal.returns
unfolding typed_well_of
returns c = rw (ne_eqb _ _ c.if-self-eq-VILL.false, c.supported.ensures, c.vlmax.ensures)
