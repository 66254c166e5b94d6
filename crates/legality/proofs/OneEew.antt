-- The test of the sources is what the ratified sentence says of registers.
use Prim.Native.Nat.{ℕ, zero, suc, ◌+◌, ◌≤◌, ◌<◌}
use mathlib.Core.Path.{◌≡◌, refl, sym}
use mathlib.Core.Logic.{⊎_elim}
use mathlib.Core.Bool.{true, ◌||◌, or-true}
use mathlib.Core.List.{List, [], ◌∷◌}
use native.Mathlib.Omega.{arith}
use native.Mathlib.Decide.{dec_le}
use lib.Dec.{leb, eqb}
use lib.ListN.{length}
use borrow.Author.Tests.{eqb-true, le-leb, eq-eqb}
use Rattle.laws.proofs.Apart.{both_left, both_right, or_cases, apart}
use Rattle.laws.proofs.Chain.{and_yes}
use Rattle.group.specs.declared.Group.{Group}
use Rattle.group.specs.Group.{span_of, apart_of, may_share_of}
use Rattle.legality.specs.Legal.{may_share_each, sources_fit}
use Rattle.legality.specs.OneEew.{Has, source_at, ReadAtOneEew, OneEew}

-- ---- two sources

-- whichever register both have, they read it at one EEW
abbrev SameWhereShared : Group → Group → Type 0
SameWhereShared s r = (n : ℕ) → Has s n → Has r n → s.eew ≡ r.eew

apart_none : (s r : Group) → apart_of s r ≡ true → (n : ℕ) → Has s n → Has r n → ⊥
apart_none s r h n p q =
    ⊎_elim (λ t. let u : s.reg + span_of s ≤ r.reg = search apart in omega (arith, p, q))
    (λ t. let u : r.reg + span_of r ≤ s.reg = search apart in omega (arith, p, q))
    (or_cases (leb (s.reg + span_of s) r.reg) (leb (r.reg + span_of r) s.reg) h)

shared_same : (s r : Group) → may_share_of s r ≡ true → SameWhereShared s r
unfolding may_share_of
shared_same s r h n p q =
    ⊎_elim (λ t. absurd (apart_none s r t n p q)) (λ t. eqb-true s.eew r.eew t) (or_cases (apart_of s r) (eqb s.eew r.eew) h)

same-shared : (s r : Group) → SameWhereShared s r → may_share_of s r ≡ true
unfolding may_share_of
same-shared s r h =
    by_place (dec_le (s.reg + span_of s) r.reg) (dec_le (r.reg + span_of r) s.reg) (dec_le s.reg r.reg) where
      equal : s.eew ≡ r.eew → (apart_of s r || eqb s.eew r.eew) ≡ true
      equal e = rw (eq-eqb s.eew r.eew e) (or-true (apart_of s r))

      by_place : Dec (s.reg + span_of s ≤ r.reg) → Dec (r.reg + span_of r ≤ s.reg) → Dec (s.reg ≤ r.reg)
          → (apart_of s r || eqb s.eew r.eew) ≡ true
      by_place (yes p) q o = rw (le-leb (s.reg + span_of s) r.reg p)
      by_place (no p) (yes q) o = rw (le-leb (r.reg + span_of r) s.reg q, or-true (leb (s.reg + span_of s) r.reg))
      by_place (no p) (no q) (yes o) = equal (h r.reg (omega arith, omega arith) (omega arith, omega arith))
      by_place (no p) (no q) (no o) = equal (h s.reg (omega arith, omega arith) (omega arith, omega arith))

-- ---- one source beside others, and each two

each_shared : (s : Group) (l : List Group) → may_share_each s l ≡ true → (k : ℕ) → k < length l → SameWhereShared s (source_at l k)
each_shared s (r ∷ l) h zero u = shared_same s r (both_left (may_share_of s r) (may_share_each s l) h)
each_shared s (r ∷ l) h (suc k) u = each_shared s l (both_right (may_share_of s r) (may_share_each s l) h) k (omega arith)
each_shared s [] h k u = omega arith

shared-each : (s : Group) (l : List Group) → ((k : ℕ) → k < length l → SameWhereShared s (source_at l k)) → may_share_each s l ≡ true
shared-each s [] h = refl
shared-each s (r ∷ l) h =
    and_yes (may_share_of s r) (may_share_each s l) (same-shared s r (h zero (omega arith))) (shared-each s l (λ k u. h (suc k) (omega arith)))

fitting : (l : List Group) → sources_fit l ≡ true → ReadAtOneEew l
unfolding sources_fit
fitting [] h i j n u v p q = omega arith
fitting (s ∷ l) h zero zero n u v p q = refl
fitting (s ∷ l) h zero (suc j) n u v p q = each_shared s l (both_left (may_share_each s l) (sources_fit l) h) j (omega arith) n p q
fitting (s ∷ l) h (suc i) zero n u v p q = sym (each_shared s l (both_left (may_share_each s l) (sources_fit l) h) i (omega arith) n q p)
fitting (s ∷ l) h (suc i) (suc j) n u v p q =
    fitting l (both_right (may_share_each s l) (sources_fit l) h) i j n (omega arith) (omega arith) p q

only-fitting : (l : List Group) → ReadAtOneEew l → sources_fit l ≡ true
unfolding sources_fit
only-fitting [] h = refl
only-fitting (s ∷ l) h =
    and_yes (may_share_each s l) (sources_fit l) (shared-each s l (λ k u n p q. h zero (suc k) n (omega arith) (omega arith) p q))
    (only-fitting l (λ i j n u v p q. h (suc i) (suc j) n (omega arith) (omega arith) p q))

pub one-eew : OneEew
one-eew = record { fitting = fitting; only-fitting = only-fitting }
