-- The number of different pages, counted upward: where the pages of the active elements ascend, a page is new unless it is the last one.
use Prim.Native.Nat.{ℕ, suc, ◌+◌, ◌≤◌}
use mathlib.Core.Path.{◌≡◌, refl}
use mathlib.Core.Bool.{Bool, true, false, ◌||◌}
use native.Mathlib.Omega.{arith}
use borrow.Author.Tests.{eq-eqb, ne_eqb}
use Rattle.unit_stride.specs.Pages.{meets, different_pages}

or-true : (b : Bool) → (b || true) ≡ true
or-true true = refl
or-true false = refl

module _ (active : ℕ → Bool) (page : ℕ → ℕ) (v : ℕ) where
  -- the n elements from v up lie on so many pages, all before page `next`, and the last of them, where there is one, is the page before it
  pub record Counted (n pages next : ℕ) : Type 0 where
    pub count : different_pages active page v n ≡ pages
    pub before : (p : ℕ) → next ≤ p → meets active page v p n ≡ false
    pub last : (p : ℕ) → suc p ≡ next → meets active page v p n ≡ true
    pub few : pages ≤ n

  pub counted_none : Counted 0 0 0
  unfolding different_pages meets
  counted_none = record { count = refl; before = λ p l. refl; last = λ p e. absurd (omega arith); few = omega arith }

  module _ (n pages next : ℕ) (c : Counted n pages next) where
    pub counted-inactive : active (v + n) ≡ false → Counted (suc n) pages next
    unfolding different_pages meets
    counted-inactive e = record {
      count = rw (e, c.count) (omega arith);
      before = λ p l. rw (e, c.before p l);
      last = λ p q. rw (e, c.last p q);
      few = omega (arith, c.few);
    }

    -- an element on the last page
    pub counted_same : active (v + n) ≡ true → suc (page (v + n)) ≡ next → Counted (suc n) pages next
    unfolding different_pages meets
    counted_same e q = record {
      count = rw (e, c.last (page (v + n)) q, c.count) (omega arith);
      before = λ p l. rw (e, c.before p l, ne_eqb (page (v + n)) p (λ z. omega arith));
      last = λ p z. rw (e, c.last p z);
      few = omega (arith, c.few);
    }

    -- an element on a new page
    pub counted-new : active (v + n) ≡ true → next ≤ page (v + n) → Counted (suc n) (suc pages) (suc (page (v + n)))
    unfolding different_pages meets
    counted-new e l = record {
      count = rw (e, c.before (page (v + n)) l, c.count) (omega arith);
      before = λ p z. rw (e, c.before p (omega arith), ne_eqb (page (v + n)) p (λ y. omega arith));
      last = λ p z. rw (e, eq-eqb (page (v + n)) p (omega arith)) (or-true (meets active page v p n));
      few = omega (arith, c.few);
    }
