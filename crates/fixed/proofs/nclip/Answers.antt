use Rattle.width.proofs.SignedLaws.{in-range}
use Rattle.width.proofs.Widths.{signed-at}
use Rattle.fixed.specs.Fixed.{vnclip}
use Rattle.fixed.proofs.ShiftLaws.{clips-rounded}
use Rattle.fixed.proofs.nclip.Goals as goal

pub returns : goal.returns
unfolding vnclip
returns c = search (clips-rounded, in-range, signed-at)
