-- Averages: the rounded half of a sum of numbers, and of one less 2 ^ w. m is 2 ^ w − 1.
use mathlib.Core.Path.{◌≡◌, sym, ap, ◌∙◌}
use Prim.Native.Nat.{ℕ, ◌+◌, ◌-◌, ◌*◌, ◌/◌, ◌%◌, ◌<◌, ◌≤◌, ◌^◌}
use native.Mathlib.Omega.{arith}
use native.Mathlib.Nat.{add-zero}
use lib.IntN.{ℤ, sub_ℕ, ◌+ℤ◌}
use lib.Pow.{pow_pos}
use Rattle.width.specs.Width.{signed, wrap}
use Rattle.width.proofs.SignedLaws.{half, wrap-half, bias}
use Rattle.width.proofs.Diff.{pos-diff, diff-eq, add-diff, shr-diff, wrap-diff, wrap-is}
use Rattle.fixed.specs.declared.Vxrm.{Vxrm}
use Rattle.fixed.specs.Round.{increment, roundoff_unsigned, roundoff_signed}
use Rattle.fixed.specs.Fixed.{vaaddu, vasubu, vaadd, vasub}
use Rattle.fixed.proofs.SumLaws.{total, total-is, sum-total, difference-total}

-- a sum's half by the halves of its terms
pub sum-half : (rm : Vxrm) (w x y c i r : ℕ) → i ≡ increment rm 1 ((x / 2 + y / 2 + (x % 2 + y % 2 + c) / 2) % 2) ((x % 2 + y % 2 + c) % 2)
    → r ≡ (x / 2 + y / 2 + (x % 2 + y % 2 + c) / 2 + i) % 2 ^ w → r ≡ roundoff_unsigned rm (x + y + c) 1 % 2 ^ w
unfolding roundoff_unsigned
sum-half rm w x y c i r e q =
    let h : x / 2 + y / 2 + (x % 2 + y % 2 + c) / 2 ≡ (x + y + c) / 2 = omega arith in
    let l : (x % 2 + y % 2 + c) % 2 ≡ (x + y + c) % 2 = omega arith in
    q ∙ rw (e, h, l)

-- where an even multiple of the unit is taken off, rounding is the unsigned one
pub round-diff : (rm : Vxrm) (n k d : ℕ) → roundoff_signed rm (sub_ℕ n (2 * k * 2 ^ d)) d ≡ sub_ℕ (roundoff_unsigned rm n d) (2 * k)
unfolding roundoff_signed roundoff_unsigned
round-diff rm n k d =
    let m : ℕ = 2 * k in
    let q : ℕ = n / 2 ^ d in
    let i : ℕ = increment rm d (q % 2) (n % 2 ^ d) in
    rw (shr-diff (2 ^ d) n m (pow_pos d), wrap-diff d n m, wrap-is 1 q m (q % 2) k (q / 2) (omega arith) (omega arith))
    (ap (λ (y : ℤ). sub_ℕ q m +ℤ y) (pos-diff i) ∙ add-diff q m i 0 ∙ ap (sub_ℕ (q + i)) (add-zero m))

-- half of n − 2 ^ w: 2 ^ w has the half m / 2 + 1, which is even
average-is : (rm : Vxrm) (w m n q r : ℕ) (z : ℤ) → 2 ≤ w → m + 1 ≡ 2 ^ w → z ≡ sub_ℕ n (2 ^ w) → q ≡ roundoff_unsigned rm n 1 % 2 ^ w
    → r ≡ (q + (m / 2 + 1)) % 2 ^ w → r ≡ wrap w (roundoff_signed rm z 1)
average-is rm w m n q r z two ones z-is q-is r-is =
    let k : ℕ = 2 ^ (w - 1 - 1) in
    let p : 2 ^ w ≡ 2 * 2 ^ (w - 1) = half (omega arith) in
    let e : 2 ^ (w - 1) ≡ 2 * k = half (omega arith) in
    let h : m / 2 + 1 ≡ 2 * k = omega arith in
    let d : z ≡ sub_ℕ n (2 * k * 2) = z-is ∙ ap (sub_ℕ n) (omega arith) in
    r-is ∙ rw (q-is, h, d, round-diff rm n k 1) (sym (wrap-half w (roundoff_unsigned rm n 1) (2 * k) (omega arith)))

-- ---- the four operations

pub vaaddu-is : (rm : Vxrm) (w a b r : ℕ) → r ≡ roundoff_unsigned rm (a + b + 0) 1 % 2 ^ w → r ≡ vaaddu rm w a b
unfolding vaaddu
vaaddu-is rm w a b r e = e ∙ rw (add-zero (a + b))

pub vasubu-is : (rm : Vxrm) (w m a b q r : ℕ) → 2 ≤ w → m + 1 ≡ 2 ^ w → b < 2 ^ w → q ≡ roundoff_unsigned rm (a + (m - b) + 1) 1 % 2 ^ w
    → r ≡ (q + (m / 2 + 1)) % 2 ^ w → r ≡ vasubu rm w a b
unfolding vasubu
vasubu-is rm w m a b q r two ones lb =
    average-is rm w m (a + (m - b) + 1) q r (sub_ℕ a b) two ones (diff-eq a b (a + (m - b) + 1) (2 ^ w) (omega arith))

-- signed operands, with half the range added
module _ (rm : Vxrm) (w m a y c x t q r : ℕ) (two : 2 ≤ w) (ones : m + 1 ≡ 2 ^ w) (la : a < 2 ^ w) (x-is : x ≡ (a + (m / 2 + 1)) % 2 ^ w)
    (t-is : t ≡ (y + (m / 2 + 1)) % 2 ^ w) (q-is : q ≡ roundoff_unsigned rm (x + t + c) 1 % 2 ^ w) (r-is : r ≡ (q + (m / 2 + 1)) % 2 ^ w)
  where
    biased : (u v : ℕ) → u < 2 ^ w → v ≡ (u + (m / 2 + 1)) % 2 ^ w → signed w u ≡ sub_ℕ v (m / 2 + 1)
    biased u v l e =
        let h : 2 ^ (w - 1) ≡ m / 2 + 1 = omega (arith, half {w = w} (omega arith)) in
        rw h at (bias w u (omega arith) l) ∙ ap (λ (k : ℕ). sub_ℕ k (m / 2 + 1)) (sym e)

    total-averages : y < 2 ^ w → r ≡ wrap w (roundoff_signed rm (total w a y c) 1)
    total-averages ly =
        average-is rm w m (x + t + c) q r (total w a y c) two ones
        (total-is w a y c x (m / 2 + 1) t (m / 2 + 1) (biased a x la x-is) (biased y t ly t-is)
        ∙ ap (sub_ℕ (x + t + c)) (omega (arith, half {w = w} (omega arith))))
        q-is r-is

    pub vaadd-is : y < 2 ^ w → c ≡ 0 → r ≡ vaadd rm w a y
    unfolding vaadd
    vaadd-is ly none = total-averages ly ∙ rw (none, sum-total w a y)

    pub vasub-is : (b : ℕ) → b < 2 ^ w → y ≡ m - b → c ≡ 1 → r ≡ vasub rm w a b
    unfolding vasub
    vasub-is b lb y-is one = total-averages (omega arith) ∙ rw (y-is, one, difference-total w m a b (omega arith) ones lb)
