-- What is clipped fits its width.
use mathlib.Core.Path.{◌≡◌}
use Prim.Native.Nat.{ℕ, ◌-◌, ◌*◌, ◌<◌, ◌≤◌, ◌^◌}
use native.Mathlib.Omega.{arith}
use mathlib.Core.Bool.{Bool, true, false, cond}
use lib.IntN.{ℤ, pos, neg_ℤ}
use lib.Signed.{lt_z, le_z}
use lib.Pow.{pow_pos}
use Rattle.width.specs.Width.{wrap}
use Rattle.width.proofs.SignedLaws.{half, wrap-lt}
use Rattle.fixed.specs.declared.Element.{Element}
use Rattle.fixed.specs.Round.{exact, saturated, clip_unsigned, clip_signed}

cond-lt : (t : Bool) (x y : Element) (n : ℕ) → x.value < n → y.value < n → (cond t x y).value < n
cond-lt true x y n h l = h
cond-lt false x y n h l = l

-- of each clip: the two bounds, and what wraps
clip-lt : (t u : Bool) (w x y : ℕ) (z : ℤ) → x < 2 ^ w → y < 2 ^ w
    → (cond t (saturated x) (cond u (saturated y) (exact (wrap w z)))).value < 2 ^ w
clip-lt t u w x y z h l =
    cond-lt t (saturated x) (cond u (saturated y) (exact (wrap w z))) (2 ^ w) h
    (cond-lt u (saturated y) (exact (wrap w z)) (2 ^ w) l (wrap-lt w z))

pub clip-unsigned-lt : (w : ℕ) (z : ℤ) → (clip_unsigned w z).value < 2 ^ w
unfolding clip_unsigned
clip-unsigned-lt w z = clip-lt (lt_z z (pos 0)) (le_z (pos (2 ^ w)) z) w 0 (2 ^ w - 1) z (pow_pos w) (omega (arith, pow_pos w))

pub clip-signed-lt : (w : ℕ) (z : ℤ) → 1 ≤ w → (clip_signed w z).value < 2 ^ w
unfolding clip_signed
clip-signed-lt w z some =
    let h : ℕ = 2 ^ (w - 1) in
    let e : 2 ^ w ≡ 2 * h = half some in
    let p = pow_pos (w - 1) in
    clip-lt (lt_z z (neg_ℤ (pos h))) (le_z (pos h) z) w h (h - 1) z (omega arith) (omega arith)
