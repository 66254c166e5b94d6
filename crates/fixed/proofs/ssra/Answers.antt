use Rattle.width.proofs.SignedLaws.{in-range}
use Rattle.fixed.specs.Fixed.{vssra}
use Rattle.fixed.proofs.ShiftLaws.{wraps-rounded}
use Rattle.fixed.proofs.ssra.Goals as goal

pub returns : goal.returns
unfolding vssra
returns c = search (wraps-rounded, in-range)
