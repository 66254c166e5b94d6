-- Sums of two signed values and a carry. A difference a − b is one: that of a, b's complement and 1. m is 2 ^ w − 1.
use mathlib.Core.Path.{◌≡◌, sym, ap, ap₂, ◌∙◌}
use Prim.Native.Nat.{ℕ, ◌+◌, ◌-◌, ◌*◌, ◌/◌, ◌%◌, ◌<◌, ◌≤◌, ◌^◌}
use native.Mathlib.Omega.{arith}
use native.Mathlib.Decide.{dec_le}
use native.Mathlib.Nat.{lt_of_not-le, add-zero, mod-eq_of_lt}
use lib.IntN.{ℤ, pos, neg_ℤ, sub_ℕ, ◌+ℤ◌, ◌-ℤ◌, +ℤ_idr, +ℤ_assoc}
use Rattle.width.specs.Width.{signed, wrap}
use Rattle.width.proofs.SignedLaws.{half, signed_low, signed_high}
use Rattle.width.proofs.Diff.{pos-diff, diff-eq, add-diff, neg-diff, mod-is, wrap-diff}
use Rattle.fixed.specs.Round.{clip_signed, exact, saturated}
use Rattle.fixed.specs.Fixed.{vsadd, vssub}
use Rattle.fixed.proofs.ClipLaws.{diff_under, diff_over, diff-within}

abbrev pub total : ℕ → ℕ → ℕ → ℕ → ℤ
total w a y c = (signed w a +ℤ signed w y) +ℤ pos c

pub total-is : (w a y c p i q j : ℕ) → signed w a ≡ sub_ℕ p i → signed w y ≡ sub_ℕ q j → total w a y c ≡ sub_ℕ (p + q + c) (i + j)
total-is w a y c p i q j e d =
    ap₂ ◌+ℤ◌ (ap₂ ◌+ℤ◌ e d ∙ add-diff p i q j) (pos-diff c) ∙ add-diff (p + q) (i + j) c 0 ∙ ap (sub_ℕ (p + q + c)) (add-zero (i + j))

-- an operand takes off nothing in the lower half, and 2 ^ w in the upper
low : (w m x : ℕ) → m + 1 ≡ 2 ^ w → x ≤ m / 2 → signed w x ≡ sub_ℕ x 0
low w m x e h = signed_low w x (omega arith) ∙ pos-diff x

high : (w m x : ℕ) → m + 1 ≡ 2 ^ w → m / 2 < x → signed w x ≡ sub_ℕ x (2 ^ w)
high w m x e h = signed_high w x (omega arith)

-- b's complement has the signed value −1 − b
complement : (w m b : ℕ) → 1 ≤ w → m + 1 ≡ 2 ^ w → b < 2 ^ w → neg_ℤ (signed w b) ≡ signed w (m - b) +ℤ pos 1
complement w m b some ones lb = go (dec_le b (m / 2))
  where
    at : (i j : ℕ) → i + j ≡ 2 ^ w → signed w b ≡ sub_ℕ b i → signed w (m - b) ≡ sub_ℕ (m - b) j
        → neg_ℤ (signed w b) ≡ signed w (m - b) +ℤ pos 1
    at i j e p q =
        ap neg_ℤ p ∙ neg-diff b i ∙ diff-eq i b (m - b + 1) (j + 0) (omega arith) ∙ sym (ap₂ ◌+ℤ◌ q (pos-diff 1) ∙ add-diff (m - b) j 1 0)

    go : Dec (b ≤ m / 2) → neg_ℤ (signed w b) ≡ signed w (m - b) +ℤ pos 1
    go (yes h) = at 0 (2 ^ w) (omega arith) (low w m b ones h) (high w m (m - b) ones (omega (arith, half some)))
    go (no f) = at (2 ^ w) 0 (omega arith) (high w m b ones (lt_of_not-le f)) (low w m (m - b) ones (omega (arith, f, half some)))

pub sum-total : (w a b : ℕ) → total w a b 0 ≡ signed w a +ℤ signed w b
sum-total w a b = +ℤ_idr (signed w a +ℤ signed w b)

pub difference-total : (w m a b : ℕ) → 1 ≤ w → m + 1 ≡ 2 ^ w → b < 2 ^ w → total w a (m - b) 1 ≡ signed w a -ℤ signed w b
difference-total w m a b some ones lb =
    +ℤ_assoc (signed w a) (signed w (m - b)) (pos 1) ∙ ap (λ (y : ℤ). signed w a +ℤ y) (sym (complement w m b some ones lb))

-- ---- saturation: a sum wraps where both operands lie in one half and what wraps, s, in the other

record Sum (w m a y c s : ℕ) (z : ℤ) : Type 0 where
  some : 1 ≤ w
  even : 2 ^ w ≡ 2 * 2 ^ (w - 1)
  ones : m + 1 ≡ 2 ^ w
  first : a < 2 ^ w
  second : y < 2 ^ w
  carry : c ≤ 1
  value : total w a y c ≡ z
  wraps : s ≡ (a + y + c) % 2 ^ w

module _ {w m a y c s : ℕ} {z : ℤ} (t : Sum w m a y c s z) where
  up : a ≤ m / 2 → y ≤ m / 2 → s ≡ a + y + c
  up ha hy = t.wraps ∙ mod-eq_of_lt (omega arith)

  down : m / 2 < a → m / 2 < y → s ≡ a + y + c - 2 ^ w
  down ha hy = t.wraps ∙ mod-is (2 ^ w) (a + y + c) (a + y + c - 2 ^ w) 0 1 (omega arith) (omega arith)

  taking : (i j : ℕ) → signed w a ≡ sub_ℕ a i → signed w y ≡ sub_ℕ y j → clip_signed w (sub_ℕ (a + y + c) (i + j)) ≡ clip_signed w z
  taking i j p q = ap (clip_signed w) (sym (total-is w a y c a i y j p q) ∙ t.value)

  over : a ≤ m / 2 → y ≤ m / 2 → m / 2 < s → saturated (m / 2) ≡ clip_signed w z
  over ha hy hs =
      diff_over w m (a + y + c) (0 + 0) t.some t.ones (omega (arith, up ha hy))
      ∙ taking 0 0 (low w m a t.ones ha) (low w m y t.ones hy)

  under : m / 2 < a → m / 2 < y → s ≤ m / 2 → saturated (m / 2 + 1) ≡ clip_signed w z
  under ha hy hs =
      diff_under w m (a + y + c) (2 ^ w + 2 ^ w) t.some t.ones (omega (arith, down ha hy))
      ∙ taking (2 ^ w) (2 ^ w) (high w m a t.ones ha) (high w m y t.ones hy)

  within : (a ≤ m / 2 → y ≤ m / 2 → s ≤ m / 2) → (m / 2 < a → m / 2 < y → m / 2 < s) → exact s ≡ clip_signed w z
  within f g = go (dec_le a (m / 2)) (dec_le y (m / 2))
    where
      at : (i j k : ℕ) → signed w a ≡ sub_ℕ a i → signed w y ≡ sub_ℕ y j → i + j ≡ k * 2 ^ w → i + j ≤ a + y + c + (m / 2 + 1)
          → a + y + c ≤ i + j + m / 2 → exact s ≡ clip_signed w z
      at i j k p q e h l =
          ap exact (t.wraps ∙ sym (ap (λ (u : ℕ). wrap w (sub_ℕ (a + y + c) u)) e ∙ wrap-diff w (a + y + c) k))
          ∙ diff-within w m (a + y + c) (i + j) t.some t.ones h l ∙ taking i j p q

      go : Dec (a ≤ m / 2) → Dec (y ≤ m / 2) → exact s ≡ clip_signed w z
      go (yes h) (yes k) =
          at 0 0 0 (low w m a t.ones h) (low w m y t.ones k) (omega arith) (omega arith) (omega (arith, up h k, f h k))
      go (yes h) (no k) =
          let l : m / 2 < y = lt_of_not-le k in
          at 0 (2 ^ w) 1 (low w m a t.ones h) (high w m y t.ones l) (omega arith) (omega arith) (omega arith)
      go (no h) (yes k) =
          let l : m / 2 < a = lt_of_not-le h in
          at (2 ^ w) 0 1 (high w m a t.ones l) (low w m y t.ones k) (omega arith) (omega arith) (omega arith)
      go (no h) (no k) =
          let l : m / 2 < a = lt_of_not-le h in
          let r : m / 2 < y = lt_of_not-le k in
          at (2 ^ w) (2 ^ w) 2 (high w m a t.ones l) (high w m y t.ones r) (omega arith) (omega (arith, down l r, g l r))
          (omega arith)

module _ (w m a b s : ℕ) (some : 1 ≤ w) (ones : m + 1 ≡ 2 ^ w) (la : a < 2 ^ w) (lb : b < 2 ^ w) (wraps : s ≡ (a + b) % 2 ^ w) where
  sum : Sum w m a b 0 s (signed w a +ℤ signed w b)
  sum =
      let e : (a + b) % 2 ^ w ≡ (a + b + 0) % 2 ^ w = rw (add-zero (a + b)) in
      record {
        some = some;
        even = half some;
        ones = ones;
        first = la;
        second = lb;
        carry = omega arith;
        value = sum-total w a b;
        wraps = wraps ∙ e;
      }

  pub sum_over : a ≤ m / 2 → b ≤ m / 2 → m / 2 < s → saturated (m / 2) ≡ vsadd w a b
  unfolding vsadd
  sum_over = over sum

  pub sum-under : m / 2 < a → m / 2 < b → s ≤ m / 2 → saturated (m / 2 + 1) ≡ vsadd w a b
  unfolding vsadd
  sum-under = under sum

  pub sum-within : (a ≤ m / 2 → b ≤ m / 2 → s ≤ m / 2) → (m / 2 < a → m / 2 < b → m / 2 < s) → exact s ≡ vsadd w a b
  unfolding vsadd
  sum-within = within sum

module _ (w m a b s : ℕ) (some : 1 ≤ w) (ones : m + 1 ≡ 2 ^ w) (la : a < 2 ^ w) (lb : b < 2 ^ w) (wraps : s ≡ wrap w (sub_ℕ a b)) where
  difference : Sum w m a (m - b) 1 s (signed w a -ℤ signed w b)
  difference =
      let e = ap (wrap w) (diff-eq a b (a + (m - b) + 1) (1 * 2 ^ w) (omega arith)) ∙ wrap-diff w (a + (m - b) + 1) 1 in
      record {
        some = some;
        even = half some;
        ones = ones;
        first = la;
        second = omega arith;
        carry = omega arith;
        value = difference-total w m a b some ones lb;
        wraps = wraps ∙ e;
      }

  pub difference-over : a ≤ m / 2 → m / 2 < b → m / 2 < s → saturated (m / 2) ≡ vssub w a b
  unfolding vssub
  difference-over ha hb = over difference ha (omega (arith, half some))

  pub difference-under : m / 2 < a → b ≤ m / 2 → s ≤ m / 2 → saturated (m / 2 + 1) ≡ vssub w a b
  unfolding vssub
  difference-under ha hb = under difference ha (omega (arith, half some))

  pub difference-within : (a ≤ m / 2 → m / 2 < b → s ≤ m / 2) → (m / 2 < a → b ≤ m / 2 → m / 2 < s) → exact s ≡ vssub w a b
  unfolding vssub
  difference-within f g = within difference (λ p q. f p (omega (arith, half some))) (λ p q. g p (omega (arith, half some)))

-- the ways through the code
pub ruleset sums = (sum_over, sum-under, sum-within)

pub ruleset differences = (difference-over, difference-under, difference-within)
