-- The rows of the table as facts about naturals, which omega proves and reads, where v is p − n and q is a − b; and that no row
-- holds of two integers.
use mathlib.Core.Path.{◌≡◌, sym, ◌∙◌}
use mathlib.Core.Logic.{inl, inr, ⊎_elim, ◌↔◌}
use Prim.Native.Nat.{ℕ, zero, suc, ◌+◌, ◌*◌, ◌%◌, ◌<◌, ◌≤◌, ◌^◌}
use native.Mathlib.Nat.{lt_of_not-le}
use native.Mathlib.Decide.{dec_le}
use native.Mathlib.Omega.{arith}
use lib.IntN.{pos, nat_abs, ◌+ℤ◌, ◌-ℤ◌, ◌*ℤ◌}
use lib.Pow.{pow_pos}
use Rattle.rounding.specs.Rounding.{Odd, NearestTiesUp, NearestTiesEven, Down, WholeOrOdd}
use Rattle.rounding.proofs.Integers.{Is, difference, difference-is, pos-is, neg_is, add_is, sub_is, mul_is, twice-is}
use Rattle.rounding.proofs.Integers.{le_of, lt_of, le-to, lt-to, eq_of, eq-to, parity, abs-of, abs-to, NoTwo}

-- ---- the rows on naturals: the rounding error is over − under

module _ (d p n a b : ℕ) where
  abbrev over : ℕ
  over = p + b * 2 ^ d

  abbrev under : ℕ
  under = n + a * 2 ^ d

  v-is : Is (difference p n) p n
  v-is = difference-is p n

  divisor-is : Is (pos (2 ^ d)) (2 ^ d) 0
  divisor-is = pos-is (2 ^ d)

  multiple-is : Is (difference a b *ℤ pos (2 ^ d)) (a * 2 ^ d) (b * 2 ^ d)
  multiple-is = mul_is (2 ^ d) (difference-is a b)

  next-is : Is ((difference a b +ℤ pos 1) *ℤ pos (2 ^ d)) ((a + 1) * 2 ^ d) ((b + 0) * 2 ^ d)
  next-is = mul_is (2 ^ d) (add_is (difference-is a b) (pos-is 1))

  error-is : Is (difference p n -ℤ difference a b *ℤ pos (2 ^ d)) over under
  error-is = sub_is v-is multiple-is

  twice : Is (pos 2 *ℤ (difference p n -ℤ difference a b *ℤ pos (2 ^ d))) (over * 2) (under * 2)
  twice = twice-is error-is

  q-parity : nat_abs (difference a b) % 2 ≡ (a + b) % 2
  q-parity = parity (difference-is a b)

  pub up : NearestTiesUp (difference p n) d (difference a b) ↔ ((2 * under ≤ 2 * over + 2 ^ d) × (2 * over < 2 * under + 2 ^ d))
  up = (
    λ h. let l = le-to (neg_is divisor-is) twice h.lower_bound in let u = lt-to twice divisor-is h.upper_bound in omega arith,
    λ h. record { lower_bound = le_of (neg_is divisor-is) twice (omega arith); upper_bound = lt_of twice divisor-is (omega arith) },
  )

  pub even : NearestTiesEven (difference p n) d (difference a b)
      ↔ ((2 * under ≤ 2 * over + 2 ^ d)
      × ((2 * over ≤ 2 * under + 2 ^ d)
      × ((2 * over + 2 ^ d ≡ 2 * under → (a + b) % 2 ≡ 0) × (2 * over ≡ 2 * under + 2 ^ d → (a + b) % 2 ≡ 0))))
  even = (
    λ h. let l = le-to (neg_is divisor-is) twice h.lower_bound in
        let u = le-to twice divisor-is h.upper_bound in (
          omega arith,
          (
            omega arith,
            (
              λ e. sym q-parity ∙ h.ties (inl (eq_of twice (neg_is divisor-is) (omega arith))),
              λ e. sym q-parity ∙ h.ties (inr (eq_of twice divisor-is (omega arith))),
            ),
          ),
        ),
    λ h. record {
      lower_bound = le_of (neg_is divisor-is) twice (omega arith);
      upper_bound = le_of twice divisor-is (omega arith);
      ties = ⊎_elim
          (λ e. let k = eq-to twice (neg_is divisor-is) e in q-parity ∙ h.1.1.0 (omega arith))
          (λ e. let k = eq-to twice divisor-is e in q-parity ∙ h.1.1.1 (omega arith));
    },
  )

  pub down : Down (difference p n) d (difference a b) ↔ ((under ≤ over) × (over < under + 2 ^ d))
  down = (
    λ h. let l = le-to multiple-is v-is h.lower_bound in let u = lt-to v-is next-is h.upper_bound in omega arith,
    λ h. record { lower_bound = le_of multiple-is v-is (omega arith); upper_bound = lt_of v-is next-is (omega arith) },
  )

  abbrev OddFacts : Type 0
  OddFacts =
      (over < under + 2 ^ d) × ((under < over + 2 ^ d) × ((under < over → (a + b) % 2 ≡ 1) × (over < under → (a + b) % 2 ≡ 1)))

  pub odd : WholeOrOdd (difference p n) d (difference a b) ↔ OddFacts
  odd = (⊎_elim whole off, λ h. from h (dec_le over under) (dec_le under over))
    where
      whole : difference p n ≡ difference a b *ℤ pos (2 ^ d) → OddFacts
      whole e = let k = eq-to v-is multiple-is e in omega (arith, pow_pos d)

      off : Odd (difference a b) × (nat_abs (difference p n -ℤ difference a b *ℤ pos (2 ^ d)) < 2 ^ d) → OddFacts
      off h =
          let k = abs-to error-is h.1 in
          let o : (a + b) % 2 ≡ 1 = sym q-parity ∙ h.0 in
          omega arith

      from : OddFacts → Dec (over ≤ under) → Dec (under ≤ over) → WholeOrOdd (difference p n) d (difference a b)
      from h (yes l) (yes g) = inl (eq_of v-is multiple-is (omega arith))
      from h (yes l) (no f) = inr (q-parity ∙ h.1.1.1 (lt_of_not-le f), abs-of error-is h.0 h.1.0)
      from h (no f) g = inr (q-parity ∙ h.1.1.0 (lt_of_not-le f), abs-of error-is h.0 h.1.0)

pub ruleset rows = (up, even, down, odd)

-- ---- a row does not hold of two integers: the greater would be too far off

module _ (d p n : ℕ) where
  pub up-once : NoTwo (NearestTiesUp (difference p n) d)
  up-once a b g h l = omega (arith, simp rows at h, simp rows at l)

  pub even-once : NoTwo (NearestTiesEven (difference p n) d)
  even-once a b zero h l =
      let x = simp rows at h in
      let y = simp rows at l in
      omega (arith, x.1.1.1 (omega arith), y.1.1.0 (omega arith))
  even-once a b (suc g) h l = omega (arith, simp rows at h, simp rows at l, pow_pos d)

  pub down-once : NoTwo (Down (difference p n) d)
  down-once a b g h l = omega (arith, simp rows at h, simp rows at l)

  pub odd-once : NoTwo (WholeOrOdd (difference p n) d)
  odd-once a b zero h l =
      let x = simp rows at h in
      let y = simp rows at l in
      omega (arith, x.1.1.0 (omega arith), y.1.1.1 (omega arith))
  odd-once a b (suc g) h l = omega (arith, simp rows at h, simp rows at l)

pub ruleset once = (up-once, even-once, down-once, odd-once)
