-- Quotients and remainders by their cases, over plain numbers: the divisor is 0, −1 or another.
use mathlib.Core.Path.{◌≡◌, sym, ap, ap₂, ◌∙◌}
use mathlib.Core.Bool.{Bool, cond}
use Prim.Native.Nat.{ℕ, ◌+◌, ◌-◌, ◌<◌, ◌^◌}
use native.Mathlib.Omega.{arith}
use lib.Dec.{eqb}
use lib.IntN.{ℤ}
use lib.Signed.{quot_z, mag}
use mir.Syntax.{w64}
use mir.Val.{to_z, of_z}
use mir.Facts.{to_z-of_z}
use borrow.Author.Tests.{eq-eqb, ne_eqb}
use Rattle.width.specs.Width.{Width, signed, wrap}
use Rattle.width.proofs.SignedLaws.{signed-zero, in-range, bits_pos, quotient-wraps}

pub by_zero : (b r x y : ℕ) → b ≡ 0 → r ≡ x → r ≡ cond (eqb b 0) x y
by_zero b r x y e f = f ∙ sym (ap (λ (t : Bool). cond t x y) (eq-eqb b 0 e))

pub by-other : (b r x y : ℕ) → (b ≡ 0 → ⊥) → r ≡ y → r ≡ cond (eqb b 0) x y
by-other b r x y e f = f ∙ sym (ap (λ (t : Bool). cond t x y) (ne_eqb b 0 e))

pub ones_is : (w m : ℕ) → m + 1 ≡ 2 ^ w → m ≡ 2 ^ w - 1
ones_is w m e = omega arith

-- ---- what the machine's division asks, and what it gives

pub divisor-bits : (w b : ℕ) (y : ℤ) → y ≡ signed w b → mag y < 2 ^ 63 → b < 2 ^ w → (b ≡ 0 → ⊥) → 0 < of_z w64 (to_z w64 (of_z w64 y))
divisor-bits w b y q hy h f = rw (to_z-of_z {w = w64} {z = y} (in-range hy)) (bits_pos y (in-range hy) (λ p. f (signed-zero w b h (sym q ∙ p))))

pub quotient_is : (w a b r : ℕ) (x y q : ℤ) → r ≡ wrap w (to_z w64 (of_z w64 q))
    → q ≡ to_z w64 (of_z w64 (quot_z (to_z w64 (of_z w64 x)) (to_z w64 (of_z w64 y)))) → x ≡ signed w a → y ≡ signed w b
    → mag x < 2 ^ 63 → mag y < 2 ^ 63 → mag q < 2 ^ 63 → Width w → r ≡ wrap w (quot_z (signed w a) (signed w b))
quotient_is w a b r x y q e g k l hx hy hq h =
    let i : to_z w64 (of_z w64 x) ≡ x = to_z-of_z (in-range hx) in
    let j : to_z w64 (of_z w64 y) ≡ y = to_z-of_z (in-range hy) in
    e ∙ ap (wrap w) (to_z-of_z (in-range hq) ∙ g ∙ ap₂ (λ (u v : ℤ). to_z w64 (of_z w64 (quot_z u v))) i j)
    ∙ quotient-wraps w x y h (in-range hx) ∙ ap₂ (λ (u v : ℤ). wrap w (quot_z u v)) k l

-- what the quotients and remainders are proved by
pub ruleset divisions = (by_zero, by-other, ones_is, divisor-bits, quotient_is)
