-- A bit read and replaced, by division.
use mathlib.Core.Path.{◌≡◌, refl, sym, ap, ap₂, ◌∙◌}
use mathlib.Core.Logic.{◌≢◌}
use mathlib.Core.List.{List}
use Prim.Native.Nat.{ℕ, suc, ◌+◌, ◌-◌, ◌*◌, ◌/◌, ◌%◌, ◌^◌, ◌≤◌, ◌<◌}
use native.Mathlib.Omega.{arith}
use native.Mathlib.Decide.{dec_lt}
use native.Mathlib.Nat.{le_trans, mod-le, mod-lt, div-mul-le_self, mul-le-mul_right}
use lib.ListN.{get_or, set}
use lib.Arith.{digits_lt}
use lib.Dec.{T, leb}
use mir.Syntax.{Width, w8}
use mir.Val.{Fits, bits}
use mir.Facts.{Fits-widen}
use lib.Pow.{pow_pos, pow-add, split, high, low, field, mod-mod-pow, shr-shr, shl_exact, shr_lt}
use Rattle.layout.specs.Layout.{bit_of, with_bit, bit_at, with_bit_at}

-- the bits above k, bit k, and those below
pub with_bit-parts : (x k b : ℕ) → with_bit x k b ≡ (x / 2 ^ k / 2 * 2 + b) * 2 ^ k + x % 2 ^ k
with_bit-parts x k b =
    let e : x / 2 ^ k * 2 ^ k ≡ (x / 2 ^ k / 2 * 2 + x / 2 ^ k % 2) * 2 ^ k = ap (λ (q : ℕ). q * 2 ^ k) (omega arith) in
    omega (arith, split x k)

with_bit-high : (x k b : ℕ) → with_bit x k b / 2 ^ k ≡ x / 2 ^ k / 2 * 2 + b
with_bit-high x k b = ap (λ (y : ℕ). y / 2 ^ k) (with_bit-parts x k b) ∙ high (x / 2 ^ k / 2 * 2 + b) k (mod-lt x (pow_pos k))

with_bit-low : (x k b : ℕ) → with_bit x k b % 2 ^ k ≡ x % 2 ^ k
with_bit-low x k b = ap (λ (y : ℕ). y % 2 ^ k) (with_bit-parts x k b) ∙ low (x / 2 ^ k / 2 * 2 + b) k (mod-lt x (pow_pos k))

-- bit j among the bits below k, and among those above it
bit_below : (x j k : ℕ) → j < k → bit_of x j ≡ x % 2 ^ k / 2 ^ j % 2
bit_below x j k h =
    let e : k ≡ k - suc j + 1 + j = omega arith in
    sym
    (ap (λ (m : ℕ). x % 2 ^ m / 2 ^ j % 2) e ∙ ap (λ (y : ℕ). y % 2) (field x (k - suc j + 1) j) ∙ mod-mod-pow (x / 2 ^ j) (k - suc j) 1)

bit-above : (x j k : ℕ) → k < j → bit_of x j ≡ x / 2 ^ k / 2 / 2 ^ (j - suc k) % 2
bit-above x j k h =
    let e : j ≡ k + (1 + (j - suc k)) = omega arith in
    ap (λ (y : ℕ). y % 2) (ap (λ (m : ℕ). x / 2 ^ m) e ∙ sym (shr-shr x k (1 + (j - suc k))) ∙ sym (shr-shr (x / 2 ^ k) 1 (j - suc k)))

pub bit-other : (x k b j : ℕ) → b < 2 → j ≢ k → bit_of (with_bit x k b) j ≡ bit_of x j
bit-other x k b j h d = go (dec_lt j k)
  where
    go : Dec (j < k) → bit_of (with_bit x k b) j ≡ bit_of x j
    go (yes l) =
        bit_below (with_bit x k b) j k l ∙ ap (λ (y : ℕ). y / 2 ^ j % 2) (with_bit-low x k b) ∙ sym (bit_below x j k l)
    go (no l) =
        let u : k < j = omega arith in
        let e : with_bit x k b / 2 ^ k / 2 ≡ x / 2 ^ k / 2 = omega (arith, with_bit-high x k b) in
        bit-above (with_bit x k b) j k u ∙ ap (λ (y : ℕ). y / 2 ^ (j - suc k) % 2) e ∙ sym (bit-above x j k u)

pub bit_le : (x k : ℕ) → bit_of x k * 2 ^ k ≤ x
bit_le x k = le_trans (mul-le-mul_right (2 ^ k) (mod-le (x / 2 ^ k) 2)) (div-mul-le_self x (2 ^ k))

pub with_bit-lt : (m x k b : ℕ) → k < m → b < 2 → x < 2 ^ m → with_bit x k b < 2 ^ m
with_bit-lt m x k b h g u =
    let e : m ≡ suc (m - suc k) + k = omega arith in
    rw (with_bit-parts x k b, e, pow-add 2 (suc (m - suc k)) k)
    (digits_lt (omega (arith, shr_lt {n = x} (suc (m - suc k)) k (rw e at u))) (mod-lt x (pow_pos k)))

-- a bit moved up in 64 bits, and what is stored in a byte x for the low bit of y at index i
shifted : (a i : ℕ) → a < 2 → a * 2 ^ (i % 8) % 2 ^ 64 ≡ a * 2 ^ (i % 8)
shifted a i h = shl_exact 1 (i % 8) 64 h (omega arith)

abbrev stored : ℕ → ℕ → ℕ → ℕ
stored x i y = x - bit_of x (i % 8) * 2 ^ (i % 8) % 2 ^ 64 + y % 2 * 2 ^ (i % 8) % 2 ^ 64

stored_is : (x i y : ℕ) → stored x i y ≡ with_bit x (i % 8) (y % 2)
stored_is x i y = ap₂ (λ (u v : ℕ). x - u + v) (shifted (bit_of x (i % 8)) i (omega arith)) (shifted (y % 2) i (omega arith))

pub stored-sub : (x i : ℕ) → bit_of x (i % 8) * 2 ^ (i % 8) % 2 ^ 64 ≤ x
stored-sub x i = le_trans (mod-le _ (2 ^ 64)) (bit_le x (i % 8))

pub stored-fits : (w : Width) (x i y : ℕ) → x < 2 ^ 8 → T (leb 8 (bits w)) → Fits w (stored x i y)
stored-fits w x i y h t =
    Fits-widen {w = w8} t (record { fits = rw (stored_is x i y) (with_bit-lt 8 x (i % 8) (y % 2) (omega arith) (omega arith) h) })

pub read-bit : (l : List ℕ) (a i : ℕ) → bit_of (get_or l (a + i / 8) 0) (i % 8) ≡ bit_at l a i
unfolding bit_at
read-bit l a i = refl

pub write-bit : (l : List ℕ) (a i y : ℕ) → set l (a + i / 8) (stored (get_or l (a + i / 8) 0) i y) ≡ with_bit_at l a i y
unfolding with_bit_at
write-bit l a i y = ap (set l (a + i / 8)) (stored_is (get_or l (a + i / 8) 0) i y)
