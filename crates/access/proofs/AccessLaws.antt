-- The access test by its outcomes; the loop over the fields of a segment.
use Rattle.std.proofs.Common.{◌≡◌, ℕ, zero, suc, ◌+◌, ◌-◌, ◌*◌, ◌/◌, ◌%◌, ◌^◌, ◌<◌, ◌≤◌, Bool, true, false, not, T, eqb, leb, List}
use Rattle.std.proofs.Common.{get_or, sym, refl, ap, ◌∙◌, mod-eq_of_lt, add-one, arith, w64, Fits, eq-eqb, eqb-true, le-leb, leb-false}
use Rattle.std.proofs.Common.{leb-true}
use Rattle.std.specs.Prelude.{Result, Ok, Err, ⊤, IsErrAnd}
use borrow.Author.Tests.{eqb-false, lt-leb, not-true, not-false}
use Rattle.laws.proofs.Chain.{either}
use Rattle.layout.specs.Layout.{byte_size}
use Rattle.layout.proofs.WidthLaws.{size-elim, size-pos}
use Rattle.answer.specs.declared.Answer.{Answer}
use Rattle.access.specs.declared.Fault.{Fault}
use Rattle.access.specs.Access.{page_of, needed, wanted_at, nothing_wanted, fault_at, misaligned, denied, access_of, field_address, or_next}
use Rattle.access.specs.Access.{fields_access}

-- the address is a multiple of the size
pub is-aligned : (a n : ℕ) (t : Bool) → t ≡ eqb (a % n) 0 → t ≡ true → a % n ≡ 0
is-aligned a n t e f = eqb-true (a % n) 0 (sym e ∙ f)

-- an aligned element ends below 2 ^ 64
pub last_fits : (a n : ℕ) → T (byte_size n) → a % n ≡ 0 → Fits w64 a → Fits w64 (a + (n - 1))
last_fits a n t e f =
    record {
      fits = size-elim (λ k. a % k ≡ 0 → a + (k - 1) < 2 ^ 64) (λ h. omega arith) (λ h. omega arith) (λ h. omega arith)
          (λ h. omega arith) n t e;
    }

-- what `?` hands on is the error itself
pub handed-on : {A E : Type 0} (r : Result A E) (e : E) → IsErrAnd r (λ x. x ≡ e) → r ≡ Err e
handed-on (Ok y) e h = absurd h
handed-on (Err x) e h = rw h

-- ---- what is granted is aligned, inside memory and on a page that has the right

never : {A : Type 0} (f : Fault) → ◌≡◌ {A = Result ⊤ Fault} (Err f) (Ok tt) → A
never f h = absurd (let z : ◌≡◌ {A = ℕ} 0 1 = cc in omega arith)

pub record Grantable (rights : List ℕ) (memory : ℕ) (store : Bool) (a n : ℕ) : Type 0 where
  pub aligned : a % n ≡ 0
  pub inside : a + n ≤ memory
  pub right : needed store ≤ get_or rights (page_of a) 0

module _ (rights : List ℕ) (memory : ℕ) (store : Bool) (a n : ℕ) where
  pub facts-granted : Grantable rights memory store a n → access_of rights memory store a n ≡ Ok tt
  unfolding access_of
  facts-granted g =
      rw (
        eq-eqb (a % n) 0 g.aligned,
        le-leb (a + n) memory g.inside,
        le-leb (needed store) (get_or rights (page_of a) 0) g.right,
      )

  -- what holds of each outcome that the test can have holds of its outcome
  pub access-cases : (P : Result ⊤ Fault → Type 0) → ((a % n ≡ 0 → ⊥) → P (fault_at (misaligned store) a nothing_wanted))
      → (a % n ≡ 0 → memory < a + n → P (fault_at (denied store) a nothing_wanted))
      → (a % n ≡ 0 → a + n ≤ memory → get_or rights (page_of a) 0 < needed store → P (fault_at (denied store) a (wanted_at store a)))
      → (Grantable rights memory store a n → P (Ok tt))
      → P (access_of rights memory store a n)
  unfolding access_of
  access-cases P if-misaligned if_past if-closed if-granted =
      either P (not (eqb (a % n) 0)) _ _ (λ t. if-misaligned (eqb-false (a % n) 0 (not-true _ t)))
      (λ t.
      let e : a % n ≡ 0 = eqb-true (a % n) 0 (not-false _ t) in
      either P (not (leb (a + n) memory)) _ _ (λ u. if_past e (leb-false (a + n) memory (not-true _ u)))
      (λ u.
      let i : a + n ≤ memory = leb-true (a + n) memory (not-false _ u) in
      either P (leb (needed store) (get_or rights (page_of a) 0)) _ _
      (λ v. if-granted (record { aligned = e; inside = i; right = leb-true (needed store) (get_or rights (page_of a) 0) v }))
      (λ v. if-closed e i (leb-false (needed store) (get_or rights (page_of a) 0) v))))

  pub granted-facts : access_of rights memory store a n ≡ Ok tt → Grantable rights memory store a n
  granted-facts = access-cases (λ v. v ≡ Ok tt → Grantable rights memory store a n)
      (λ e. never _) (λ e o. never _) (λ e i r. never _) (λ g h. g)

  -- ---- the test by its outcomes

  pub faults-misaligned : (r : Result ⊤ Fault) (x : Answer) (t : Bool) → t ≡ eqb (a % n) 0 → t ≡ false → x ≡ misaligned store
      → r ≡ fault_at x a nothing_wanted
      → r ≡ access_of rights memory store a n
  unfolding access_of
  faults-misaligned r x t e f p q = rw (← e, f, ← p) q

  module _ (e : a % n ≡ 0) where
    pub faults-past-memory : (r : Result ⊤ Fault) (x : Answer) → T (byte_size n) → memory ≤ a + (n - 1) → x ≡ denied store
        → r ≡ fault_at x a nothing_wanted
        → r ≡ access_of rights memory store a n
    unfolding access_of
    faults-past-memory r x t h p q = rw (eq-eqb (a % n) 0 e, lt-leb (a + n) memory (omega (arith, size-pos n t)), ← p) q

    module _ (k : ℕ) (h : a + (n - 1) < memory) (g : k ≡ needed store) where
      pub faults-closed : (r : Result ⊤ Fault) (x : Answer) → get_or rights (a / 256) 0 < k → x ≡ denied store
          → r ≡ fault_at x a (record { page = a / 256; right = k })
          → r ≡ access_of rights memory store a n
      unfolding access_of
      faults-closed r x l p q =
          rw (eq-eqb (a % n) 0 e, le-leb (a + n) memory (omega arith), ← g, lt-leb k (get_or rights (a / 256) 0) l, ← p) q

      pub granted : k ≤ get_or rights (a / 256) 0 → Ok tt ≡ access_of rights memory store a n
      granted l = sym (facts-granted (record { aligned = e; inside = omega arith; right = omega (arith, g, l) }))

-- ---- fields

first_field : (a n : ℕ) → Fits w64 a → a ≡ field_address a n 0
first_field a n f = omega (arith, f.fits)

next_field : (a n k : ℕ) → (field_address a n k + n) % 2 ^ 64 ≡ field_address a n (k + 1)
next_field a n k = omega arith

module _ (rights : List ℕ) (memory : ℕ) (store : Bool) (a n nf : ℕ) where
  -- fields 0 to k - 1 are granted, so that the others decide
  pub record Testing (field k : ℕ) : Type 0 where
    pub most : k ≤ suc nf
    pub here : field ≡ field_address a n k
    pub rest : fields_access rights memory store a n 0 (suc nf) ≡ fields_access rights memory store a n k (suc nf - k)

  pub testing-none : (field k : ℕ) → Fits w64 a → field ≡ a → k ≡ 0 → Testing field k
  testing-none field k f e z = record {
    most = omega arith;
    here = e ∙ first_field a n f ∙ ap (field_address a n) (sym z);
    rest = rw (z, all);
  } where
    all : suc nf - 0 ≡ suc nf
    all = omega arith

  module _ (field k : ℕ) (t : Testing field k) (l : k < nf + 1) (v : Result ⊤ Fault) (p : v ≡ access_of rights memory store field n) where
    -- with field k before the others
    split : fields_access rights memory store a n 0 (suc nf) ≡ or_next v (fields_access rights memory store a n (suc k) (nf - k))
    unfolding fields_access
    split = t.rest ∙ rw (sub-suc, p, t.here)
      where
        sub-suc : suc nf - k ≡ suc (nf - k)
        sub-suc = omega arith

    pub testing-faulted : (f : Fault) (r : Result ⊤ Fault) → v ≡ Err f → r ≡ Err f
        → r ≡ fields_access rights memory store a n 0 (suc nf)
    testing-faulted f r q e = e ∙ sym (split ∙ rw q)

    pub testing-more : (x : ⊤) → v ≡ Ok x → Testing ((field + n) % 2 ^ 64) (k + 1)
    testing-more x q = record {
      most = omega arith;
      here = ap (λ (x : ℕ). (x + n) % 2 ^ 64) t.here ∙ next_field a n k;
      rest = split ∙ rw (q, add-one) (ap (fields_access rights memory store a n (suc k)) (omega arith));
    }

  pub testing-done : (field k : ℕ) → Testing field k → nf + 1 ≤ k → Ok tt ≡ fields_access rights memory store a n 0 (suc nf)
  unfolding fields_access
  testing-done field k t l = sym (t.rest ∙ rw none)
    where
      none : suc nf - k ≡ 0
      none = omega arith

-- ---- fields that are granted lie inside memory

pub granted-first : (v w : Result ⊤ Fault) → or_next v w ≡ Ok tt → v ≡ Ok tt
granted-first (Ok tt) w h = refl
granted-first (Err f) w h = h

pub granted-next : (v w : Result ⊤ Fault) → or_next v w ≡ Ok tt → w ≡ Ok tt
granted-next (Ok tt) w h = h
granted-next (Err f) w h = never f h

module _ (rights : List ℕ) (memory : ℕ) (store : Bool) (a n : ℕ) (m : memory ≤ 65536) where
  field-here : (k : ℕ) (next : Result ⊤ Fault) → a + k * n < 2 ^ 64
      → or_next (access_of rights memory store (field_address a n k) n) next ≡ Ok tt → a + k * n + n ≤ memory
  field-here k next l h =
      let here : field_address a n k + n ≤ memory =
      (granted-facts rights memory store (field_address a n k) n (granted-first _ next h)).inside in
      let plain : field_address a n k ≡ a + k * n = mod-eq_of_lt l in
      omega (arith, here, plain)

  -- no field's address wraps where all are granted
  fields-inside : (k others : ℕ) → a + k * n < 2 ^ 64 → fields_access rights memory store a n k (suc others) ≡ Ok tt
      → a + (k + suc others) * n ≤ memory
  unfolding fields_access
  fields-inside k zero l h = omega (arith, field-here k _ l h)
  fields-inside k (suc others) l h =
      omega (
        arith,
        fields-inside (suc k) others (omega (arith, field-here k _ l h))
            (granted-next (access_of rights memory store (field_address a n k) n) _ h),
      )

  pub segment-inside : (nf : ℕ) (v : Result ⊤ Fault) → Fits w64 a → v ≡ fields_access rights memory store a n 0 (suc nf) → v ≡ Ok tt
      → a + suc nf * n ≤ memory
  segment-inside nf v f p q = omega (arith, fields-inside 0 nf (omega (arith, f.fits)) (sym p ∙ q))
