-- Twice a width: that a u64 holds it, and what holds at a width that is known by an equation.
use mathlib.Core.Path.{◌≡◌, ap, ◌∙◌}
use Prim.Native.Nat.{ℕ, ◌*◌, ◌%◌, ◌^◌, ◌≤◌}
use native.Mathlib.Omega.{arith}
use lib.IntN.{ℤ}
use Rattle.width.specs.Width.{Width, signed}

pub double-of : (w : ℕ) → 1 ≤ w → 2 * w ≤ 64 → Width (2 * w)
double-of w h l = record { some = omega arith; most = l }

pub cut-at : (v w n r : ℕ) → r ≡ n % 2 ^ v → v ≡ w → r ≡ n % 2 ^ w
cut-at v w n r e f = e ∙ ap (λ (k : ℕ). n % 2 ^ k) f

pub signed-at : (v w x : ℕ) (z : ℤ) → z ≡ signed v x → v ≡ w → z ≡ signed w x
signed-at v w x z e f = e ∙ ap (λ (k : ℕ). signed k x) f
