use Rattle.machine.specs.Effect.{acting_of}
use Rattle.execute.proofs.StepLaws.{masked_off, acted}
use Rattle.execute.proofs.compute_element.Goals as goal

pub returns-then-not-active : goal.returns-then-not-active
unfolding acting_of
returns-then-not-active c = search masked_off

pub returns : goal.returns
unfolding acting_of
returns c = search (acted, c.compute.ensures)
