-- Shifts at a width.
use mathlib.Core.Path.{◌≡◌, ap, ◌∙◌}
use Prim.Native.Nat.{ℕ, ◌%◌, ◌^◌, ◌<◌}
use lib.IntN.{ℤ}
use lib.Signed.{mag, shr_z}
use mir.Syntax.{w64}
use mir.Val.{to_z, of_z}
use Rattle.width.specs.Width.{Width, signed, wrap}
use Rattle.width.proofs.LowBits.{low-low}
use Rattle.width.proofs.SignedLaws.{in-range, shr-back}

-- to the left: the low w bits of the low 64
pub left_is : (w n r : ℕ) → r ≡ n % 2 ^ 64 % 2 ^ w → Width w → r ≡ n % 2 ^ w
left_is w n r e h = e ∙ low-low n h.most

-- to the right, signed, from v bits to w
pub right_is : (v w a k r : ℕ) (x : ℤ) → r ≡ wrap w (to_z w64 (of_z w64 (shr_z (to_z w64 (of_z w64 x)) (2 ^ k)))) → x ≡ signed v a
    → mag x < 2 ^ 63 → r ≡ wrap w (shr_z (signed v a) (2 ^ k))
right_is v w a k r x e f h = e ∙ ap (wrap w) (shr-back x (2 ^ k) (in-range h) ∙ ap (λ (z : ℤ). shr_z z (2 ^ k)) f)
