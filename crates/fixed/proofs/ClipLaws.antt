-- Saturation, by which side of the range a value lies on. m is 2 ^ w − 1, so that m / 2 is the greatest signed number.
use mathlib.Core.Path.{◌≡◌, refl, sym, ap, ap₂, ◌∙◌, subst⁻¹}
use mathlib.Core.Bool.{Bool, true, false, cond}
use Prim.Native.Nat.{ℕ, suc, ◌+◌, ◌-◌, ◌/◌, ◌<◌, ◌≤◌, ◌^◌}
use native.Mathlib.Omega.{arith}
use native.Mathlib.Nat.{mod-eq_of_lt}
use native.Mathlib.Numerals.{add-one}
use lib.IntN.{ℤ, pos, negsuc, sub_ℕ, ◌-ℤ◌}
use lib.Pow.{pow_mono}
use lib.Signed.{lt_z, le_z}
use mir.Syntax.{w64}
use mir.Val.{SFits, to_z}
use mir.Facts.{to_z-of_z, to_z_pos}
use borrow.Author.Tests.{le-ltb, le-leb, lt-leb}
use Rattle.width.specs.Width.{wrap}
use Rattle.width.proofs.SignedLaws.{half, comp-pos}
use Rattle.width.proofs.Diff.{diff-pos, diff-neg, pos-diff, negsuc-diff, lt-diff, nlt-diff}
use Rattle.fixed.specs.Round.{clip_unsigned, clip_signed, exact, saturated}
use Rattle.fixed.proofs.RoundLaws.{back}

-- ---- unsigned

pub unsigned-over : (w m v : ℕ) → m + 1 ≡ 2 ^ w → m < v → saturated m ≡ clip_unsigned w (pos v)
unfolding clip_unsigned
unsigned-over w m v e h = rw (le-ltb v 0 (omega arith), le-leb (2 ^ w) v (omega arith)) (ap saturated (omega arith))

pub unsigned-within : (w v : ℕ) → v < 2 ^ w → exact v ≡ clip_unsigned w (pos v)
unfolding clip_unsigned wrap
unsigned-within w v h = rw (le-ltb v 0 (omega arith), lt-leb (2 ^ w) v h, mod-eq_of_lt h)

pub unsigned-under : (w a b : ℕ) → a < b → saturated 0 ≡ clip_unsigned w (sub_ℕ a b)
unfolding clip_unsigned
unsigned-under w a b h = rw (diff-neg a b h)

pub unsigned-difference : (w a b : ℕ) → b ≤ a → a < 2 ^ w → exact (a - b) ≡ clip_unsigned w (sub_ℕ a b)
unsigned-difference w a b h l = unsigned-within w (a - b) (omega arith) ∙ sym (ap (clip_unsigned w) (diff-pos a b h))

-- ---- signed

le_z-suc : (h : ℕ) (z : ℤ) → le_z (pos (suc h)) z ≡ lt_z (pos h) z
le_z-suc h (pos n) = refl
le_z-suc h (negsuc n) = refl

-- the clip by two tests
by_tests : (w m : ℕ) (z : ℤ) → 1 ≤ w → m + 1 ≡ 2 ^ w
    → clip_signed w z
    ≡ cond (lt_z z (negsuc (m / 2))) (saturated (m / 2 + 1)) (cond (lt_z (pos (m / 2)) z) (saturated (m / 2)) (exact (wrap w z)))
unfolding clip_signed
by_tests w m z h e =
    let d : 2 ^ (w - 1) ≡ suc (m / 2) = omega (arith, half h) in
    let k : suc (m / 2) - 1 ≡ m / 2 = omega arith in
    rw (d, le_z-suc (m / 2) z, add-one (m / 2), k)

-- of a difference
module _ (w m p n : ℕ) (some : 1 ≤ w) (ones : m + 1 ≡ 2 ^ w) where
  pub diff_under : p + (m / 2 + 1) < n → saturated (m / 2 + 1) ≡ clip_signed w (sub_ℕ p n)
  diff_under h = rw (by_tests w m (sub_ℕ p n) some ones, negsuc-diff (m / 2), lt-diff p n 0 (suc (m / 2)) (omega arith))

  pub diff_over : n + m / 2 < p → saturated (m / 2) ≡ clip_signed w (sub_ℕ p n)
  diff_over h =
      let below = nlt-diff p n 0 (suc (m / 2)) (omega arith) in
      rw (by_tests w m (sub_ℕ p n) some ones, negsuc-diff (m / 2), below, pos-diff (m / 2), lt-diff (m / 2) 0 p n (omega arith))

  pub diff-within : n ≤ p + (m / 2 + 1) → p ≤ n + m / 2 → exact (wrap w (sub_ℕ p n)) ≡ clip_signed w (sub_ℕ p n)
  diff-within h l =
      let below = nlt-diff p n 0 (suc (m / 2)) (omega arith) in
      rw (by_tests w m (sub_ℕ p n) some ones, negsuc-diff (m / 2), below, pos-diff (m / 2), nlt-diff (m / 2) 0 p n (omega arith))

-- ---- an i64, by the tests of the code

abbrev below : ℕ → ℤ → Bool
below m z = lt_z (back z) (back (negsuc 0 -ℤ to_z w64 (m / 2)))

abbrev above : ℕ → ℤ → Bool
above m z = lt_z (to_z w64 (m / 2)) (back z)

module _ (w m : ℕ) (z : ℤ) (some : 1 ≤ w) (most : w ≤ 64) (ones : m + 1 ≡ 2 ^ w) (fits : SFits w64 z) where
  top_lt : m / 2 < 2 ^ 63
  top_lt = omega (arith, pow_mono most)

  least : negsuc 0 -ℤ to_z w64 (m / 2) ≡ negsuc (m / 2)
  least = ap (λ (y : ℤ). negsuc 0 -ℤ y) (to_z_pos w64 top_lt) ∙ comp-pos (m / 2)

  pub least_fits : SFits w64 (negsuc 0 -ℤ to_z w64 (m / 2))
  least_fits = subst⁻¹ (SFits w64) least (record { sfits = top_lt })

  below-is : below m z ≡ lt_z z (negsuc (m / 2))
  below-is = ap₂ lt_z (to_z-of_z fits) (ap back least ∙ to_z-of_z {w = w64} {z = negsuc (m / 2)} (record { sfits = top_lt }))

  above-is : above m z ≡ lt_z (pos (m / 2)) z
  above-is = ap₂ lt_z (to_z_pos w64 top_lt) (to_z-of_z fits)

  pub signed-under : below m z ≡ true → saturated (m / 2 + 1) ≡ clip_signed w z
  signed-under t = rw (by_tests w m z some ones, ← below-is, t)

  pub signed-over : below m z ≡ false → above m z ≡ true → saturated (m / 2) ≡ clip_signed w z
  signed-over t u = rw (by_tests w m z some ones, ← below-is, t, ← above-is, u)

  pub signed-within : (x : ℕ) → below m z ≡ false → above m z ≡ false → x ≡ wrap w (back z) → exact x ≡ clip_signed w z
  signed-within x t u r = rw (by_tests w m z some ones, ← below-is, t, ← above-is, u, r, to_z-of_z fits)
