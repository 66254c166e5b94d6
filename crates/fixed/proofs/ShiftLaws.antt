-- A rounded i64 that is then wrapped or clipped, for the shifts, the narrowing clips and the fractional multiply.
use mathlib.Core.Path.{◌≡◌, ap, ap₂, ◌∙◌}
use Prim.Native.Nat.{ℕ, ◌<◌, ◌^◌}
use lib.IntN.{ℤ, ◌*ℤ◌}
use lib.Signed.{mag}
use mir.Syntax.{w64}
use mir.Val.{SFits}
use mir.Facts.{to_z-of_z}
use Rattle.width.specs.Width.{signed, wrap}
use Rattle.width.proofs.SignedLaws.{in-range, signed-read}
use Rattle.fixed.specs.declared.Element.{Element}
use Rattle.fixed.specs.declared.Vxrm.{Vxrm}
use Rattle.fixed.specs.Round.{roundoff_signed, clip_signed}
use Rattle.fixed.proofs.RoundLaws.{back}

module _ (rm : Vxrm) (w d : ℕ) (q x z : ℤ) (q-is : q ≡ roundoff_signed rm (back x) d) (q-fits : mag q < 2 ^ 63) (x_Fits : SFits w64 x)
    (x-is : x ≡ z) where
  rounded : back q ≡ roundoff_signed rm z d
  rounded = to_z-of_z (in-range q-fits) ∙ q-is ∙ rw (to_z-of_z x_Fits, x-is)

  pub wraps-rounded : (r : ℕ) → r ≡ wrap w (back q) → r ≡ wrap w (roundoff_signed rm z d)
  wraps-rounded r e = e ∙ ap (wrap w) rounded

  pub clips-rounded : (r : Element) → r ≡ clip_signed w (back q) → r ≡ clip_signed w (roundoff_signed rm z d)
  clips-rounded r e = e ∙ ap (clip_signed w) rounded

pub product_is : (w a b : ℕ) (x y : ℤ) → x ≡ signed w a → y ≡ signed w b → mag x < 2 ^ 63 → mag y < 2 ^ 63
    → back x *ℤ back y ≡ signed w a *ℤ signed w b
product_is w a b x y p q h l = ap₂ ◌*ℤ◌ (signed-read w a x p h) (signed-read w b y q l)
