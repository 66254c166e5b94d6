use Rattle.fixed.specs.Fixed.{vsmul}
use Rattle.width.proofs.SignedLaws.{product-fits}
use Rattle.width.proofs.Widths.{double-of}
use Rattle.fixed.proofs.ShiftLaws.{clips-rounded, product_is}
use Rattle.fixed.proofs.smul.Goals as goal

pub overflow_mul-x : goal.overflow_mul-x
unfolding vsmul
overflow_mul-x c = search (product-fits, double-of)

pub returns : goal.returns
unfolding vsmul
returns c = search (clips-rounded, product-fits, product_is, double-of)
