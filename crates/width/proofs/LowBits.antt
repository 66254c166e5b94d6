-- The low w bits of a number that is known modulo 2 ^ 64.
use Rattle.std.proofs.Common.{◌≡◌, ℕ, ◌+◌, ◌-◌, ◌*◌, ◌/◌, ◌%◌, ◌^◌, ◌<◌, ◌≤◌, sym, ap, ◌∙◌, lt_of_le_of_lt, le_of_lt, mul-le-mul_left}
use Rattle.std.proofs.Common.{mul-lt-mul_of_pos_right, sub-add_cancel, arith, pow_pos, pow-add}
use mathlib.Core.Path.{subst⁻¹}
use lib.Bits.{bit_and, and_mask}
use lib.Pow.{mod-mod-pow, ones_split, high, ones_lt, suc_ones}

-- a width's power divides 2 ^ 64
pub pow-64 : {w : ℕ} → w ≤ 64 → 2 ^ 64 ≡ 2 ^ (64 - w) * 2 ^ w
pow-64 {w} h = ap (λ (k : ℕ). 2 ^ k) (sym (sub-add_cancel h)) ∙ pow-add 2 (64 - w) w

-- the low w bits of the low 64
pub low-low : (n : ℕ) {w : ℕ} → w ≤ 64 → n % 2 ^ 64 % 2 ^ w ≡ n % 2 ^ w
low-low n {w} h = ap (λ (k : ℕ). n % 2 ^ k % 2 ^ w) (sym (sub-add_cancel h)) ∙ mod-mod-pow n (64 - w) w

-- 64 ones shifted down by 64 − w are w ones
pub ones_shr : {w : ℕ} → w ≤ 64 → (2 ^ 64 - 1) / 2 ^ (64 - w) ≡ 2 ^ w - 1
ones_shr {w} h =
    let k : ℕ = 64 - w in
    let e : w + k ≡ 64 = omega arith in
    ap (λ (x : ℕ). (2 ^ x - 1) / 2 ^ k) (sym e) ∙ ap (λ (x : ℕ). x / 2 ^ k) (ones_split w k) ∙ high (2 ^ w - 1) k (ones_lt k)

-- a mask of w ones takes the remainder by 2 ^ w
pub and-ones : (x w m : ℕ) → m + 1 ≡ 2 ^ w → bit_and x m ≡ x % 2 ^ w
and-ones x w m e = ap (λ (y : ℕ). bit_and x y) (omega (arith, suc_ones w)) ∙ and_mask x w

-- a product of two numbers of k and j digits
pub mul-lt : {a b : ℕ} (j k : ℕ) → a < 2 ^ j → b < 2 ^ k → a * b < 2 ^ (j + k)
mul-lt {a} {b} j k h l =
    subst⁻¹ (λ (n : ℕ). a * b < n) (pow-add 2 j k) (lt_of_le_of_lt (mul-le-mul_left a (le_of_lt l)) (mul-lt-mul_of_pos_right h (pow_pos k)))
