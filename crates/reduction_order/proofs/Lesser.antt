-- The lesser and the greater of two numbers, by a test that orders them, are associative and commutative; signed values are so ordered.
use Prim.Native.Nat.{ℕ, ◌+◌, ◌*◌, ◌^◌, ◌≤◌, ◌<◌}
use mathlib.Core.Path.{◌≡◌, refl, sym, ap₂, ◌∙◌}
use mathlib.Core.Bool.{Bool, true, false, cond}
use native.Mathlib.Omega.{arith}
use native.Mathlib.Decide.{dec_lt}
use lib.IntN.{pos, sub_ℕ}
use lib.Signed.{lt_z}
use lib.Dec.{ltb}
use borrow.Author.Tests.{lt-ltb, le-ltb, ltb-true, ltb-false}
use Rattle.width.specs.Width.{signed}
use Rattle.width.proofs.Diff.{pos-diff, diff-eq, lt-diff, nlt-diff}
use Rattle.integer.specs.Integer.{vmin, vmax}

-- a test that orders the numbers below n
record Orders (n : ℕ) (less : ℕ → ℕ → Bool) : Type 0 where
  through : (x y z : ℕ) → less x y ≡ true → less y z ≡ true → less x z ≡ true
  through_not : (x y z : ℕ) → less x y ≡ false → less y z ≡ false → less x z ≡ false
  one_way : (x y : ℕ) → less x y ≡ true → less y x ≡ false
  same : (x y : ℕ) → x < n → y < n → less x y ≡ false → less y x ≡ false → x ≡ y

module _ (n : ℕ) (less : ℕ → ℕ → Bool) (o : Orders n less) where
  abbrev lesser : ℕ → ℕ → ℕ
  lesser x y = cond (less x y) x y

  lesser-associates : (x y z : ℕ) → lesser (lesser x y) z ≡ lesser x (lesser y z)
  lesser-associates x y z = go (less x y) (less y z) refl refl
    where
      go : (s t : Bool) → less x y ≡ s → less y z ≡ t → lesser (lesser x y) z ≡ lesser x (lesser y z)
      go true true p q = simp (p, q, o.through x y z p q)
      go true false p q = simp (p, q)
      go false true p q = simp (p, q)
      go false false p q = simp (p, q, o.through_not x y z p q)

  lesser-commutes : (x y : ℕ) → x < n → y < n → lesser x y ≡ lesser y x
  lesser-commutes x y h k = go (less x y) (less y x) refl refl
    where
      go : (s t : Bool) → less x y ≡ s → less y x ≡ t → lesser x y ≡ lesser y x
      go true t p q = rw (p, o.one_way x y p)
      go false true p q = rw (p, q)
      go false false p q = rw (p, q) (sym (o.same x y h k p q))

-- ---- in two's complement

module _ (w : ℕ) where
  -- a number that has the place of a signed value among the others
  abbrev rank : ℕ → ℕ
  rank x = cond (ltb (2 * x) (2 ^ w)) (x + 2 ^ w) x

  signed-rank : (x : ℕ) → signed w x ≡ sub_ℕ (rank x) (2 ^ w)
  unfolding signed
  signed-rank x = go (ltb (2 * x) (2 ^ w))
    where
      go : (t : Bool) → cond t (pos x) (sub_ℕ x (2 ^ w)) ≡ sub_ℕ (cond t (x + 2 ^ w) x) (2 ^ w)
      go true = pos-diff x ∙ diff-eq x 0 (x + 2 ^ w) (2 ^ w) (omega arith)
      go false = refl

  abbrev below : ℕ → ℕ → Bool
  below x y = lt_z (signed w x) (signed w y)

  below-rank : (x y : ℕ) → below x y ≡ ltb (rank x) (rank y)
  below-rank x y =
      ap₂ lt_z (signed-rank x) (signed-rank y) ∙ go (dec_lt (rank x) (rank y))
    where
      go : Dec (rank x < rank y) → lt_z (sub_ℕ (rank x) (2 ^ w)) (sub_ℕ (rank y) (2 ^ w)) ≡ ltb (rank x) (rank y)
      go (yes l) = lt-diff (rank x) (2 ^ w) (rank y) (2 ^ w) (omega arith) ∙ sym (lt-ltb (rank x) (rank y) l)
      go (no l) = nlt-diff (rank x) (2 ^ w) (rank y) (2 ^ w) (omega arith) ∙ sym (le-ltb (rank x) (rank y) (omega arith))

  is_below : (x y : ℕ) → below x y ≡ true → rank x < rank y
  is_below x y h = ltb-true (rank x) (rank y) (sym (below-rank x y) ∙ h)

  not-below : (x y : ℕ) → below x y ≡ false → rank y ≤ rank x
  not-below x y h = ltb-false (rank x) (rank y) (sym (below-rank x y) ∙ h)

  rank_same : (x y : ℕ) → x < 2 ^ w → y < 2 ^ w → rank x ≡ rank y → x ≡ y
  rank_same x y h k = go (ltb (2 * x) (2 ^ w)) (ltb (2 * y) (2 ^ w))
    where
      go : (s t : Bool) → cond s (x + 2 ^ w) x ≡ cond t (y + 2 ^ w) y → x ≡ y
      go true true e = omega arith
      go true false e = omega arith
      go false true e = omega arith
      go false false e = e

  below-orders : Orders (2 ^ w) below
  below-orders = record {
    through = λ x y z p q. below-rank x z ∙ lt-ltb (rank x) (rank z) (omega (arith, is_below x y p, is_below y z q));
    through_not = λ x y z p q. below-rank x z ∙ le-ltb (rank x) (rank z) (omega (arith, not-below x y p, not-below y z q));
    one_way = λ x y p. below-rank y x ∙ le-ltb (rank y) (rank x) (omega (arith, is_below x y p));
    same = λ x y h k p q. rank_same x y h k (omega (arith, not-below x y p, not-below y x q));
  }

  -- the same test the other way round: the greater of two is the lesser by it
  abbrev above : ℕ → ℕ → Bool
  above x y = below y x

  above-orders : Orders (2 ^ w) above
  above-orders = record {
    through = λ x y z p q. below-orders.through z y x q p;
    through_not = λ x y z p q. below-orders.through_not z y x q p;
    one_way = λ x y p. below-orders.one_way y x p;
    same = λ x y h k p q. below-orders.same x y h k q p;
  }

  pub min-associates : (x y z : ℕ) → vmin w (vmin w x y) z ≡ vmin w x (vmin w y z)
  min-associates = lesser-associates (2 ^ w) below below-orders

  pub min-commutes : (x y : ℕ) → x < 2 ^ w → y < 2 ^ w → vmin w x y ≡ vmin w y x
  min-commutes = lesser-commutes (2 ^ w) below below-orders

  pub max-associates : (x y z : ℕ) → vmax w (vmax w x y) z ≡ vmax w x (vmax w y z)
  max-associates x y z = sym (lesser-associates (2 ^ w) above above-orders z y x)

  pub max-commutes : (x y : ℕ) → x < 2 ^ w → y < 2 ^ w → vmax w x y ≡ vmax w y x
  max-commutes x y h k = lesser-commutes (2 ^ w) above above-orders y x k h
