use Rattle.execute.proofs.StepLaws.{kept-on-store, kept-on-load, field_stored, field-loaded}
use Rattle.execute.proofs.move_field.Goals as goal

pub returns-then-store : goal.returns-then-store
returns-then-store c = search (kept-on-store, field_stored)

pub returns-else-store : goal.returns-else-store
returns-else-store c = search (kept-on-load, field-loaded)
