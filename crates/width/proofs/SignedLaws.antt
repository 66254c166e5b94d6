-- Signed machine integers: what a local of type i64 holds, and `signed` and `wrap` over the width.
use Rattle.std.proofs.Common.{◌≡◌, ℕ, zero, suc, ◌+◌, ◌-◌, ◌*◌, ◌/◌, ◌%◌, ◌^◌, ◌<◌, ◌≤◌, Bool, cond, ℤ, pos, negsuc, ◌-ℤ◌, ◌*ℤ◌, neg_ℤ}
use Rattle.std.proofs.Common.{nat_abs, sym, refl, ap, ◌∙◌, ap₂, le_trans, le_of_eq, lt_of_lt_of_le, lt_of_le_of_lt, mod-lt, mod-eq_of_lt}
use Rattle.std.proofs.Common.{mul-le-mul, lt_of_not-le, zero-add, div-le_self, div-add-mod', arith, lit<, pow_pos, pow_mono, to_z-of_z}
use Rattle.std.proofs.Common.{w64, SFits, to_z, of_z, le-ltb, lt-ltb}
use mathlib.Core.Path.{subst⁻¹}
use native.Mathlib.Nat.{mul-le-mul_right}
use Rattle.std.proofs.lemmas.Nat.{shl-shr}
use Rattle.width.proofs.LowBits.{pow-64}
use native.Mathlib.Nat.{mod-add-mod, two-pow-succ, zero-mod}
use native.Mathlib.Decide.{dec_le}
use lib.IntN.{sub_ℕ}
use lib.Signed.{nat_abs-le, lt_z, mag, quot_z, shr_z, mag_shr}
use mir.Facts.{to_z_pos, sfits_to_z, of_z-to_z}
use mir.Val.{Fits}
use Rattle.width.specs.Width.{Width, signed, wrap}
use Rattle.width.proofs.Diff.{negsuc-diff, shr-diff, diff-is-neg, diff-is-pos, diff-eq, pos-diff, wrap-is, mod-is, wrap-diff}

-- `signed` by its two cases
pub signed_low : (w x : ℕ) → 2 * x < 2 ^ w → signed w x ≡ pos x
unfolding signed
signed_low w x h = ap (λ (b : Bool). cond b (pos x) (sub_ℕ x (2 ^ w))) (lt-ltb (2 * x) (2 ^ w) h)

pub signed_high : (w x : ℕ) → 2 ^ w ≤ 2 * x → signed w x ≡ sub_ℕ x (2 ^ w)
unfolding signed
signed_high w x h = ap (λ (b : Bool). cond b (pos x) (sub_ℕ x (2 ^ w))) (le-ltb (2 * x) (2 ^ w) h)

-- the same with the power's parts in view: in the upper half, −(2 ^ w − x)
pub signed-neg : (w x k : ℕ) → 2 ^ w ≤ 2 * x → 2 ^ w ≡ x + suc k → signed w x ≡ negsuc k
signed-neg w x k h e = signed_high w x h ∙ diff-is-neg x (2 ^ w) k e

-- the round trip from an element
pub wrap-signed : (w x : ℕ) → x < 2 ^ w → wrap w (signed w x) ≡ x
wrap-signed w x h = go (dec_le (2 ^ w) (2 * x))
  where
    go : Dec (2 ^ w ≤ 2 * x) → wrap w (signed w x) ≡ x
    go (yes l) = ap (wrap w) (signed_high w x l) ∙ wrap-is w x (2 ^ w) x 1 0 h (omega arith)
    go (no f) = ap (wrap w) (signed_low w x (lt_of_not-le f) ∙ pos-diff x) ∙ wrap-is w x 0 x 0 0 h (omega arith)

-- −1 − k
pub comp-pos : (k : ℕ) → negsuc 0 -ℤ pos k ≡ negsuc k
comp-pos zero = refl
comp-pos (suc k) = ap (λ (n : ℕ). negsuc (suc n)) (zero-add k)

-- a power by its half
pub half : {w : ℕ} → 1 ≤ w → 2 ^ w ≡ 2 * 2 ^ (w - 1)
half {w} h = ap (λ (k : ℕ). 2 ^ k) (omega arith) ∙ two-pow-succ (w - 1) ∙ omega arith

-- a signed value as a difference: s is 0 or 2 ^ w
pub record AsDiff (w x : ℕ) : Type 0 where
  pub k : ℕ
  pub small : k ≤ 1
  pub is : signed w x ≡ sub_ℕ x (k * 2 ^ w)
  pub low : k * 2 ^ w ≤ x + 2 ^ (w - 1)
  pub high : x < k * 2 ^ w + 2 ^ (w - 1)

pub as-diff : (w x : ℕ) → 1 ≤ w → x < 2 ^ w → AsDiff w x
as-diff w x h l = go (dec_le (2 ^ w) (2 * x))
  where
    go : Dec (2 ^ w ≤ 2 * x) → AsDiff w x
    go (yes f) =
        let e = half h in
        record {
          k = 1;
          small = omega arith;
          is = signed_high w x f ∙ ap (sub_ℕ x) (omega arith);
          low = omega arith;
          high = omega arith;
        }
    go (no f) =
        let e = half h in
        let g : 2 * x < 2 ^ w = lt_of_not-le f in
        record {
          k = 0;
          small = omega arith;
          is = signed_low w x g ∙ pos-diff x ∙ ap (sub_ℕ x) (omega arith);
          low = omega arith;
          high = omega arith;
        }

-- the size of a signed value
pub signed-mag : (w x : ℕ) → 1 ≤ w → x < 2 ^ w → mag (signed w x) < 2 ^ (w - 1)
signed-mag w x h l = go (dec_le (2 ^ w) (2 * x))
  where
    go : Dec (2 ^ w ≤ 2 * x) → mag (signed w x) < 2 ^ (w - 1)
    go (yes f) = let e = half h in subst⁻¹ (λ (z : ℤ). mag z < 2 ^ (w - 1)) (signed-neg w x (2 ^ w - suc x) f (omega arith)) (omega arith)
    go (no f) =
        let e = half h in
        let g : 2 * x < 2 ^ w = lt_of_not-le f in
        subst⁻¹ (λ (z : ℤ). mag z < 2 ^ (w - 1)) (signed_low w x g) (omega arith)

-- only 0 is 0
pub signed-zero : (w x : ℕ) → x < 2 ^ w → signed w x ≡ pos 0 → x ≡ 0
unfolding wrap
signed-zero w x h e = sym (wrap-signed w x h) ∙ ap (wrap w) e ∙ zero-mod (2 ^ w)

-- ---- products

abs_neg : (n : ℕ) → nat_abs (neg_ℤ (pos n)) ≡ n
abs_neg zero = refl
abs_neg (suc n) = refl

pub mag-le-abs : (z : ℤ) → mag z ≤ nat_abs z
mag-le-abs (pos n) = omega arith
mag-le-abs (negsuc n) = omega arith

pub abs-mul : (x y : ℤ) → nat_abs (x *ℤ y) ≡ nat_abs x * nat_abs y
abs-mul (pos a) (pos b) = refl
abs-mul (pos a) (negsuc b) = abs_neg (a * suc b)
abs-mul (negsuc a) (pos b) = abs_neg (suc a * b)
abs-mul (negsuc a) (negsuc b) = refl

-- a product by the factors' sizes
pub mul-fits : (m n : ℕ) (x y : ℤ) → nat_abs x ≤ m → nat_abs y ≤ n → m * n < 2 ^ 63 → SFits w64 (x *ℤ y)
mul-fits m n x y h l f =
    record { sfits = lt_of_le_of_lt (le_trans (mag-le-abs (x *ℤ y)) (le_trans (le_of_eq (abs-mul x y)) (mul-le-mul h l))) f }

pub signed-abs : (w k x : ℕ) → 1 ≤ w → w ≤ suc k → x < 2 ^ w → nat_abs (signed w x) ≤ 2 ^ k
signed-abs w k x h l b = nat_abs-le (signed w x) (lt_of_lt_of_le (signed-mag w x h b) (pow_mono (omega arith)))

-- of a width that can be doubled
pub narrow-abs : (w x : ℕ) → Width (2 * w) → x < 2 ^ w → nat_abs (signed w x) ≤ 2 ^ 31
narrow-abs w x s l = signed-abs w 31 x (omega arith) (omega arith) l

-- ---- what an i64 holds after an operation: the machine reads its operands back from their bits

-- a callee's result fits, by its range
pub in-range : {z : ℤ} → mag z < 2 ^ 63 → SFits w64 z
in-range h = record { sfits = h }

pub shr-back : (x : ℤ) (m : ℕ) → SFits w64 x → to_z w64 (of_z w64 (shr_z (to_z w64 (of_z w64 x)) m)) ≡ shr_z x m
shr-back x m h =
    ap (λ (z : ℤ). to_z w64 (of_z w64 (shr_z z m))) (to_z-of_z h)
    ∙ to_z-of_z {w = w64} {z = shr_z x m} (record { sfits = lt_of_le_of_lt (mag_shr x m) h.sfits })

-- an operand, and the product of two operands of at most 32 bits
pub signed-read : (w a : ℕ) (x : ℤ) → x ≡ signed w a → mag x < 2 ^ 63 → to_z w64 (of_z w64 x) ≡ signed w a
signed-read w a x e h = to_z-of_z (in-range h) ∙ e

pub product-fits : (w a b : ℕ) (x y : ℤ) → x ≡ signed w a → y ≡ signed w b → mag x < 2 ^ 63 → mag y < 2 ^ 63 → Width (2 * w) → a < 2 ^ w
    → b < 2 ^ w
    → SFits w64 (to_z w64 (of_z w64 x) *ℤ to_z w64 (of_z w64 y))
product-fits w a b x y p q hx hy s h l =
    rw (signed-read w a x p hx, signed-read w b y q hy)
    (mul-fits (2 ^ 31) (2 ^ 31) (signed w a) (signed w b) (narrow-abs w a s h) (narrow-abs w b s l) (lit< tt))

pub lt_back : (x y : ℤ) → SFits w64 x → SFits w64 y → lt_z (to_z w64 (of_z w64 x)) (to_z w64 (of_z w64 y)) ≡ lt_z x y
lt_back x y hx hy = ap₂ lt_z (to_z-of_z hx) (to_z-of_z hy)

pub wrap-lt : (w : ℕ) (z : ℤ) → wrap w z < 2 ^ w
unfolding wrap
wrap-lt w (pos n) = mod-lt n (pow_pos w)
wrap-lt w (negsuc n) = omega (arith, pow_pos w)

-- a signed value plus half the range, wrapped, is that sum
pub bias : (w x : ℕ) → 1 ≤ w → x < 2 ^ w → signed w x ≡ sub_ℕ ((x + 2 ^ (w - 1)) % 2 ^ w) (2 ^ (w - 1))
bias w x h l = go (dec_le (2 ^ w) (2 * x))
  where
    go : Dec (2 ^ w ≤ 2 * x) → signed w x ≡ sub_ℕ ((x + 2 ^ (w - 1)) % 2 ^ w) (2 ^ (w - 1))
    go (yes f) =
        let e = half h in
        let m : (x + 2 ^ (w - 1)) % 2 ^ w ≡ x - 2 ^ (w - 1) =
        mod-is (2 ^ w) (x + 2 ^ (w - 1)) (x - 2 ^ (w - 1)) 0 1 (omega arith) (omega arith) in
        signed_high w x f ∙ diff-eq x (2 ^ w) ((x + 2 ^ (w - 1)) % 2 ^ w) (2 ^ (w - 1)) (omega arith)
    go (no f) =
        let e = half h in
        let g : 2 * x < 2 ^ w = lt_of_not-le f in
        let m : (x + 2 ^ (w - 1)) % 2 ^ w ≡ x + 2 ^ (w - 1) = mod-eq_of_lt (omega arith) in
        signed_low w x g ∙ sym (diff-is-pos ((x + 2 ^ (w - 1)) % 2 ^ w) (2 ^ (w - 1)) x (omega arith))

-- what is taken off as half the range may as well be added
pub wrap-half : (w n h : ℕ) → 2 ^ w ≡ h + h → wrap w (sub_ℕ n h) ≡ (n % 2 ^ w + h) % 2 ^ w
wrap-half w n h e = ap (wrap w) (diff-eq n h (n + h) (1 * 2 ^ w) (omega arith)) ∙ wrap-diff w (n + h) 1 ∙ sym (mod-add-mod n (2 ^ w) h)

-- ---- what the code of to_signed and from_signed does

-- the low bits of an i64's bits
low-of : (w : ℕ) (z : ℤ) → w ≤ 64 → nat_abs z < 2 ^ 64 → of_z w64 z % 2 ^ w ≡ wrap w z
unfolding wrap
low-of w (pos n) h f = refl
low-of w (negsuc n) h f =
    let y : ℕ = 2 ^ 64 - suc n in
    let p : 2 ^ 64 ≡ 2 ^ (64 - w) * 2 ^ w = pow-64 h in
    let s : y / 2 ^ w * 2 ^ w + y % 2 ^ w ≡ y = div-add-mod' y (2 ^ w) in
    sym (ap (wrap w) (negsuc-diff n) ∙ wrap-is w 0 (suc n) (y % 2 ^ w) (2 ^ (64 - w)) (y / 2 ^ w) (mod-lt y (pow_pos w)) (omega arith))

abs-fits : (z : ℤ) → SFits w64 z → nat_abs z < 2 ^ 64
abs-fits z f = omega (arith, nat_abs-le z f.sfits)

pub low-is : (w n r : ℕ) (z : ℤ) → r ≡ n % 2 ^ w → n ≡ of_z w64 (to_z w64 (of_z w64 z)) → Width w → SFits w64 z → r ≡ wrap w z
low-is w n r z e g h f = e ∙ ap (λ (x : ℕ). x % 2 ^ w) (g ∙ ap (of_z w64) (to_z-of_z f)) ∙ low-of w z h.most (abs-fits z f)

-- an integer of 64 bits, cut to an i64 first
bits-fit : (z : ℤ) → nat_abs z < 2 ^ 64 → Fits w64 (of_z w64 z)
bits-fit (pos n) h = record { fits = h }
bits-fit (negsuc n) h = record { fits = omega arith }

pub wrap-back : (w : ℕ) (z : ℤ) → Width w → nat_abs z < 2 ^ 64 → wrap w (to_z w64 (of_z w64 z)) ≡ wrap w z
wrap-back w z h l =
    let f : Fits w64 (of_z w64 z) = bits-fit z l in
    let s : ℤ = to_z w64 (of_z w64 z) in
    sym (low-of w s h.most (abs-fits s (sfits_to_z f))) ∙ ap (λ (n : ℕ). n % 2 ^ w) (of_z-to_z f) ∙ low-of w z h.most l

-- a difference of multiples of 2 ^ k, shifted down
down : (k x m : ℕ) (s : ℤ) → s ≡ sub_ℕ (x * 2 ^ k) (m * 2 ^ k) → SFits w64 s
    → to_z w64 (of_z w64 (shr_z (to_z w64 (of_z w64 s)) (2 ^ k))) ≡ sub_ℕ x m
down k x m s e f =
    shr-back s (2 ^ k) f ∙ ap (λ (z : ℤ). shr_z z (2 ^ k)) e ∙ shr-diff (2 ^ k) (x * 2 ^ k) m (pow_pos k)
    ∙ ap (λ (y : ℕ). sub_ℕ y m) (shl-shr x k)

-- w bits shifted to the top of an i64 and down again
pub shifted : (w x : ℕ) (s : ℤ) → Width w → x < 2 ^ w → s ≡ to_z w64 (x * 2 ^ (64 - w) % 2 ^ 64)
    → to_z w64 (of_z w64 (shr_z (to_z w64 (of_z w64 s)) (2 ^ (64 - w)))) ≡ signed w x
shifted w x s h l e = go (dec_le (2 ^ w) (2 * x))
  where
    go : Dec (2 ^ w ≤ 2 * x) → to_z w64 (of_z w64 (shr_z (to_z w64 (of_z w64 s)) (2 ^ (64 - w)))) ≡ signed w x
    go (yes f) =
        let u : ℕ = 2 ^ (64 - w) in
        let p : 2 ^ 64 ≡ u * 2 ^ w = pow-64 h.most in
        let m : suc x * u ≤ 2 ^ w * u = mul-le-mul_right u l in
        let g : 2 ^ w * u ≤ 2 * x * u = mul-le-mul_right u f in
        let b : 0 < u = pow_pos (64 - w) in
        let k : ℕ = 2 ^ 64 - suc (x * u) in
        let t : k < 2 ^ 63 = omega arith in
        let i : s ≡ negsuc k =
        e ∙ ap (to_z w64) (mod-eq_of_lt (omega arith) ∙ omega arith) ∙ to_z-of_z {w = w64} {z = negsuc k} (record { sfits = t }) in
        down (64 - w) x (2 ^ w) s (i ∙ sym (diff-is-neg (x * u) (2 ^ w * u) k (omega arith))) (rw i (record { sfits = t }))
        ∙ sym (signed_high w x f)
    go (no f) =
        let u : ℕ = 2 ^ (64 - w) in
        let p : 2 ^ 64 ≡ u * 2 ^ w = pow-64 h.most in
        let g : 2 * x < 2 ^ w = lt_of_not-le f in
        let m : suc (2 * x) * u ≤ 2 ^ w * u = mul-le-mul_right u g in
        let b : 0 < u = pow_pos (64 - w) in
        let t : x * u < 2 ^ 63 = omega arith in
        let i : s ≡ pos (x * u) = e ∙ ap (to_z w64) (mod-eq_of_lt (omega arith)) ∙ to_z_pos w64 t in
        down (64 - w) x 0 s (i ∙ pos-diff (x * u) ∙ ap (sub_ℕ (x * u)) (omega arith)) (rw i (record { sfits = t }))
        ∙ sym (signed_low w x g ∙ pos-diff x)

-- ---- quotients and remainders of an i64

pub quot-abs : (x y : ℤ) → nat_abs (quot_z x y) ≤ nat_abs x
quot-abs (pos a) (pos b) = div-le_self a b
quot-abs (pos a) (negsuc b) = le_trans (le_of_eq (abs_neg (a / suc b))) (div-le_self a (suc b))
quot-abs (negsuc a) (pos b) = le_trans (le_of_eq (abs_neg (suc a / b))) (div-le_self (suc a) b)
quot-abs (negsuc a) (negsuc b) = div-le_self (suc a) (suc b)

-- what wraps is the quotient's low bits, also of the least i64 by −1
pub quotient-wraps : (w : ℕ) (x y : ℤ) → Width w → SFits w64 x → wrap w (to_z w64 (of_z w64 (quot_z x y))) ≡ wrap w (quot_z x y)
quotient-wraps w x y h f = wrap-back w (quot_z x y) h (lt_of_le_of_lt (quot-abs x y) (abs-fits x f))

-- the machine asks that a divisor's bits are not 0
pub bits_pos : (y : ℤ) → SFits w64 y → (y ≡ pos 0 → ⊥) → 0 < of_z w64 y
bits_pos (pos zero) h f = absurd (f refl)
bits_pos (pos (suc n)) h f = omega arith
bits_pos (negsuc n) h f = omega (arith, h.sfits)
