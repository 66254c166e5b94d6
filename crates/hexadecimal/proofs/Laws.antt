-- Digits: a test of each, and one digit more.
use mathlib.Core.Path.{◌≡◌, refl, sym, ap, ap₂, ◌∙◌, subst}
use mathlib.Core.Bool.{Bool, true, ◌&&◌}
use mathlib.Core.List.{List}
use Rattle.std.specs.List.{list_all, range_with_len}
use Rattle.std.proofs.Math.Bool.{and_assoc, and-true}
use Rattle.std.proofs.Math.Nat.{add-zero, zero-add}
use Prim.Native.Nat.{ℕ, zero, suc, ◌+◌, ◌*◌, ◌≤◌, ◌<◌, ◌^◌}
use native.Mathlib.Omega.{arith}
use native.Mathlib.Numerals.{add-one}
use native.Mathlib.Nat.{pow-le-pow_right, zero-lt-suc}
use lib.ListN.{get_or}
use lib.Pow.{pow-add}
use mir.Syntax.{w64}
use mir.Val.{Fits}
use mir.Facts.{Fits-le}
use Rattle.hexadecimal.specs.Hexadecimal.{digit_of, all_at, number_at}

-- ---- none, and one more

-- a test of the numbers from a on: the last after the others
all_more : (f : ℕ → Bool) (a n : ℕ) → list_all f (range_with_len a (suc n)) ≡ (list_all f (range_with_len a n) && f (a + n))
all_more f a zero = rw (add-zero, and-true)
all_more f a (suc n) =
    let e : a + 1 + n ≡ a + suc n = omega arith in
    rw (all_more f (a + 1) n, e, ← and_assoc)

-- so a definition that takes the last after the others says what a test of each says
pub each_of : (f g : ℕ → Bool) → g 0 ≡ true → ((n : ℕ) → g (suc n) ≡ (g n && f n)) → (n : ℕ) → list_all f (range_with_len 0 n) ≡ g n
each_of f g none more zero = sym none
each_of f g none more (suc n) = all_more f 0 n ∙ (rw (zero-add, each_of f g none more n) (sym (more n)))

-- the bytes that pass a test
pub each_at : (test : ℕ → Bool) (s : List ℕ) (at n : ℕ)
    → list_all (λ i. test (get_or s (at + i) 0)) (range_with_len 0 n) ≡ all_at test s at n
unfolding all_at
each_at test s at = each_of (λ i. test (get_or s (at + i) 0)) (all_at test s at) refl (λ n. refl)

pub no_number : (s : List ℕ) (at : ℕ) → 0 ≡ number_at s at 0
unfolding number_at
no_number s at = refl

pub number_more : (s : List ℕ) (at i b x d : ℕ) → x ≡ number_at s at i → b ≡ get_or s (at + i) 0 → d ≡ digit_of b
    → x * 16 + d ≡ number_at s at (i + 1)
unfolding number_at
number_more s at i b x d p q h = rw (add-one i) (ap₂ (λ (y e : ℕ). y * 16 + e) p (h ∙ ap digit_of q))

-- all n, after a loop up to n
pub reached : {A : Type 0} (f : List ℕ → ℕ → ℕ → A) (s : List ℕ) (at i n : ℕ) (x : A) → i ≤ n → n ≤ i → x ≡ f s at i → x ≡ f s at n
reached {A} f s at i n x p q h = subst (λ (k : ℕ). x ≡ f s at k) (omega arith) h

-- ---- i digits are below 16 ^ i, and one more fits 64 bits where there are at most 16

pub more_lt : (x d i : ℕ) → x < 16 ^ i → d < 16 → x * 16 + d < 16 ^ (i + 1)
more_lt x d i h l = rw (pow-add 16 i 1) (omega arith)

pub all-lt : (x i n : ℕ) → i ≤ n → n ≤ i → x < 16 ^ i → x < 16 ^ n
all-lt x i n p q h = subst (λ (k : ℕ). x < 16 ^ k) (omega arith) h

pub more-fits : (x d i n : ℕ) → i < n → n ≤ 16 → x < 16 ^ i → d < 16 → Fits w64 (x * 16 + d)
more-fits x d i n p q h l =
    let v : i + 1 ≤ 16 = omega arith in
    let u : 16 ^ (i + 1) ≤ 16 ^ 16 = pow-le-pow_right (zero-lt-suc 15) v in
    record { fits = omega (arith, more_lt x d i h l) }

pub times-fits : (x i n : ℕ) → i < n → n ≤ 16 → x < 16 ^ i → Fits w64 (x * 16)
times-fits x i n p q h = Fits-le (omega arith) (more-fits x 0 i n p q h (omega arith))
