-- An operation that goes bit by bit is associative where its bits are.
use Prim.Native.Nat.{ℕ, zero, suc, ◌+◌, ◌*◌, ◌/◌, ◌%◌, ◌^◌, ◌<◌, min, max}
use mathlib.Core.Path.{◌≡◌, refl, sym, ap, ap₂, ◌∙◌}
use native.Mathlib.Nat.{two-pow-succ}
use native.Mathlib.Omega.{arith}
use lib.Bits.{bit_and, bit_or, bit_xor, differ, and_step, or_step, xor_step}

-- what holds of 0 and of 1 holds of a bit
bit : (P : ℕ → Type 0) → P 0 → P 1 → (x : ℕ) → x < 2 → P x
bit P p q zero h = p
bit P p q (suc zero) h = q
bit P p q (suc (suc x)) h = absurd (omega arith)

-- F goes bit by bit, f is what it does at each
module _ (F f : ℕ → ℕ → ℕ) (step : (a b : ℕ) → F a b ≡ F (a / 2) (b / 2) * 2 + f (a % 2) (b % 2))
    (closed : (x y : ℕ) → x < 2 → y < 2 → f x y < 2)
    (bits : (x y z : ℕ) → x < 2 → y < 2 → z < 2 → f (f x y) z ≡ f x (f y z)) where
  low : (a b : ℕ) → f (a % 2) (b % 2) < 2
  low a b = closed (a % 2) (b % 2) (omega arith) (omega arith)

  half : (a b : ℕ) → F a b / 2 ≡ F (a / 2) (b / 2)
  half a b = omega (arith, step a b, low a b)

  odd : (a b : ℕ) → F a b % 2 ≡ f (a % 2) (b % 2)
  odd a b = omega (arith, step a b, low a b)

  nothing : F 0 0 ≡ 0
  nothing = omega (arith, step 0 0)

  associates : (k a b c : ℕ) → a < 2 ^ k → b < 2 ^ k → c < 2 ^ k → F (F a b) c ≡ F a (F b c)
  associates zero a b c p q r =
      let x : a ≡ 0 = omega arith in
      let y : b ≡ 0 = omega arith in
      let z : c ≡ 0 = omega arith in
      rw (x, y, z, nothing)
  associates (suc k) a b c p q r =
      let less : (n : ℕ) → n < 2 ^ suc k → n / 2 < 2 ^ k = λ n l. omega (arith, two-pow-succ k) in
      step (F a b) c
      ∙ ap₂ (λ (x y : ℕ). x * 2 + y)
      (ap (λ (x : ℕ). F x (c / 2)) (half a b) ∙ associates k (a / 2) (b / 2) (c / 2) (less a p) (less b q) (less c r)
      ∙ ap (F (a / 2)) (sym (half b c)))
      (ap (λ (x : ℕ). f x (c % 2)) (odd a b) ∙ bits (a % 2) (b % 2) (c % 2) (omega arith) (omega arith) (omega arith)
      ∙ ap (f (a % 2)) (sym (odd b c)))
      ∙ sym (step a (F b c))

min-closed : (x y : ℕ) → x < 2 → y < 2 → min x y < 2
min-closed x y h k = omega arith

max-closed : (x y : ℕ) → x < 2 → y < 2 → max x y < 2
max-closed x y h k = omega arith

differ-closed : (x y : ℕ) → x < 2 → y < 2 → differ x y < 2
differ-closed x y h k = bit (λ x. differ x y < 2) k (bit (λ y. differ 1 y < 2) (omega arith) (omega arith) y k) x h

min-bits : (x y z : ℕ) → x < 2 → y < 2 → z < 2 → min (min x y) z ≡ min x (min y z)
min-bits x y z h k l = omega arith

max-bits : (x y z : ℕ) → x < 2 → y < 2 → z < 2 → max (max x y) z ≡ max x (max y z)
max-bits x y z h k l = omega arith

differ-bits : (x y z : ℕ) → x < 2 → y < 2 → z < 2 → differ (differ x y) z ≡ differ x (differ y z)
differ-bits x y z h k l =
    bit (λ x. differ (differ x y) z ≡ differ x (differ y z)) refl
    (bit (λ y. differ (differ 1 y) z ≡ differ 1 (differ y z)) refl
    (bit (λ z. differ (differ 1 1) z ≡ differ 1 (differ 1 z)) refl refl z l) y k) x h

pub and-associates : (k a b c : ℕ) → a < 2 ^ k → b < 2 ^ k → c < 2 ^ k → bit_and (bit_and a b) c ≡ bit_and a (bit_and b c)
and-associates = associates bit_and min and_step min-closed min-bits

pub or-associates : (k a b c : ℕ) → a < 2 ^ k → b < 2 ^ k → c < 2 ^ k → bit_or (bit_or a b) c ≡ bit_or a (bit_or b c)
or-associates = associates bit_or max or_step max-closed max-bits

pub xor-associates : (k a b c : ℕ) → a < 2 ^ k → b < 2 ^ k → c < 2 ^ k → bit_xor (bit_xor a b) c ≡ bit_xor a (bit_xor b c)
xor-associates = associates bit_xor differ xor_step differ-closed differ-bits
