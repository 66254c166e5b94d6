-- Operations on i64 operands, over plain numbers: what a result that fits wraps to.
use mathlib.Core.Path.{◌≡◌, ap, ap₂, ◌∙◌}
use Prim.Native.Nat.{ℕ}
use lib.IntN.{ℤ}
use mir.Syntax.{w64}
use mir.Val.{SFits, to_z, of_z}
use mir.Facts.{to_z-of_z}
use Rattle.width.specs.Width.{wrap}

pub op-is : (f : ℤ → ℤ → ℤ) (w r p q : ℕ) (x y : ℤ) → r ≡ wrap w (to_z w64 (of_z w64 (f (to_z w64 p) (to_z w64 q))))
    → SFits w64 (f (to_z w64 p) (to_z w64 q)) → to_z w64 p ≡ x → to_z w64 q ≡ y → r ≡ wrap w (f x y)
op-is f w r p q x y e k h l = e ∙ ap (wrap w) (to_z-of_z k ∙ ap₂ f h l)
