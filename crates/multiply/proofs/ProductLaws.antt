-- Products of two operands of at most 32 bits, over plain numbers: they fit a machine integer, and what they wrap to.
use mathlib.Core.Path.{◌≡◌, ap, ap₂, ◌∙◌}
use Prim.Native.Nat.{ℕ, ◌-◌, ◌*◌, ◌<◌, ◌^◌}
use native.Mathlib.Omega.{arith}
use native.Mathlib.Nat.{lt_of_lt_of_le}
use lib.IntN.{ℤ, pos, ◌*ℤ◌}
use lib.Signed.{shr_z, mag}
use lib.Dec.{lit<}
use lib.Pow.{pow_mono}
use mir.Syntax.{w64}
use mir.Val.{Fits, SFits, to_z, of_z}
use mir.Facts.{to_z_pos}
use Rattle.multiply.proofs.OperandLaws.{op-is}
use Rattle.width.specs.Width.{Width, signed, wrap}
use Rattle.width.proofs.SignedLaws.{mul-fits, narrow-abs, signed-read, product-fits, shr-back}
use Rattle.width.proofs.LowBits.{mul-lt}
use Rattle.width.proofs.Widths.{double-of}

pub unsigned-fits : (w a b : ℕ) → Width (2 * w) → a < 2 ^ w → b < 2 ^ w → Fits w64 (a * b)
unsigned-fits w a b s h l = record { fits = lt_of_lt_of_le (mul-lt w w h l) (pow_mono {j = 64} (omega arith)) }

below-32 : (w b : ℕ) → Width (2 * w) → b < 2 ^ w → b < 2 ^ 32
below-32 w b s l = lt_of_lt_of_le l (pow_mono {j = 32} (omega arith))

-- an unsigned operand as an i64
pub cast_fits : (w b : ℕ) → Width (2 * w) → b < 2 ^ w → SFits w64 (pos b)
cast_fits w b s l = let h = below-32 w b s l in record { sfits = omega arith }

pub unsigned-read : (w b : ℕ) → Width (2 * w) → b < 2 ^ w → to_z w64 b ≡ pos b
unsigned-read w b s l = to_z_pos w64 (cast_fits w b s l).sfits

-- a signed operand by an unsigned one
pub mixed-fits : (w a b : ℕ) (x : ℤ) → x ≡ signed w a → mag x < 2 ^ 63 → Width (2 * w) → a < 2 ^ w → b < 2 ^ w
    → SFits w64 (to_z w64 (of_z w64 x) *ℤ to_z w64 b)
mixed-fits w a b x p hx s h l =
    let k = below-32 w b s l in
    rw (signed-read w a x p hx, unsigned-read w b s l)
    (mul-fits (2 ^ 31) (2 ^ 32 - 1) (signed w a) (pos b) (narrow-abs w a s h) (omega arith) (lit< tt))

-- the low w bits of a product, and of what a shift leaves of it
pub low-is : (w r p q : ℕ) (x y : ℤ) → r ≡ wrap w (to_z w64 (of_z w64 (to_z w64 p *ℤ to_z w64 q))) → SFits w64 (to_z w64 p *ℤ to_z w64 q)
    → to_z w64 p ≡ x → to_z w64 q ≡ y → r ≡ wrap w (x *ℤ y)
low-is = op-is ◌*ℤ◌

pub high_is : (w m r p q : ℕ) (x y : ℤ) → r ≡ wrap w (to_z w64 (of_z w64 (shr_z (to_z w64 (of_z w64 (to_z w64 p *ℤ to_z w64 q))) m)))
    → SFits w64 (to_z w64 p *ℤ to_z w64 q) → to_z w64 p ≡ x → to_z w64 q ≡ y → r ≡ wrap w (shr_z (x *ℤ y) m)
high_is w m r p q x y e f h l = e ∙ ap (wrap w) (shr-back (to_z w64 p *ℤ to_z w64 q) m f ∙ ap₂ (λ (u v : ℤ). shr_z (u *ℤ v) m) h l)

-- what the signed products are proved by
pub ruleset products = (double-of, cast_fits, product-fits, mixed-fits, signed-read, unsigned-read, low-is, high_is)
