use Rattle.integer.proofs.ShiftLaws.{right_is}
use Rattle.integer.proofs.shift_signed.Goals as goal

pub returns : goal.returns
returns c = search right_is
