use Rattle.sheet.proofs.Printing.{set-up}
use Rattle.sheet.proofs.Machine.set_up.Goals as goal

pub returns : goal.returns
returns c = search set-up
