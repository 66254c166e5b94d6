-- However the elements of an access are tested, at most two pages come of it: it has at most 128 bytes.
use Rattle.std.specs.Prelude.{Result, Ok, Err, ⊤}
use Prim.Native.Nat.{ℕ, zero, suc, ◌+◌, ◌-◌, ◌*◌, ◌≤◌, ◌<◌}
use mathlib.Core.Path.{◌≡◌, refl, sym, ◌∙◌}
use mathlib.Core.Logic.{◌⊎◌, inl, inr, ⊎_elim}
use mathlib.Core.Bool.{Bool, true, false, not, ◌&&◌, ◌||◌}
use mathlib.Core.List.{List}
use native.Mathlib.Omega.{arith}
use native.Mathlib.Nat.{mul-le-mul_right}
use native.Mathlib.Decide.{dec_lt}
use lib.Dec.{eqb}
use borrow.Author.Tests.{eq-eqb}
use Rattle.width.specs.Width.{flag}
use Rattle.access.specs.Access.{page_of}
use Rattle.plan.specs.declared.Transfer.{Transfer}
use Rattle.machine.specs.Effect.{element_address}
use Rattle.unit_stride.specs.declared.Checked.{Checked}
use Rattle.unit_stride.specs.Pages.{meets, different_pages, page_tested}
use Rattle.unit_stride.specs.Tested.{Packed, test_of, Tested, none-faults, first-faults}
use Rattle.unit_stride.proofs.PackedLaws.{later}
use Rattle.unit_stride.proofs.TestedLaws.{granted-inside}
use Rattle.access.specs.declared.Fault.{Fault}

-- ---- elements on page p and the next

flag-most : (b : Bool) → flag b ≤ 1
flag-most true = omega arith
flag-most false = omega arith

-- one that lies on a page, where m says whether others lie there and k whether others lie on the other page
on_one : (d : ℕ) (m k y : Bool) → d ≤ flag m + flag k → d + flag (not m) ≤ flag (m || true) + flag (k || y)
on_one d true true y h = omega arith
on_one d true false y h = omega arith
on_one d false true y h = omega arith
on_one d false false y h = omega arith

-- d pages so far; an element that is active or not, and on which page it lies
one_more : (d : ℕ) (active m k r x y : Bool) → d ≤ flag m + flag k
    → (active ≡ true → ((r ≡ m) × (x ≡ true)) ⊎ ((r ≡ k) × (y ≡ true)))
    → d + flag (active && not r) ≤ flag (m || (active && x)) + flag (k || (active && y))
one_more d false true true r x y h f = omega arith
one_more d false true false r x y h f = omega arith
one_more d false false true r x y h f = omega arith
one_more d false false false r x y h f = omega arith
one_more d true m k r x y h f =
    ⊎_elim (λ q. rw (q.0, q.1) (on_one d m k y h)) (λ q. rw (q.0, q.1) (omega (arith, on_one d k m x (omega arith)))) (f refl)

module _ (active : ℕ → Bool) (page : ℕ → ℕ) (v : ℕ) where
  two-counted : (p n : ℕ) → ((j : ℕ) → j < n → active (v + j) ≡ true → (page (v + j) ≡ p) ⊎ (page (v + j) ≡ suc p))
      → different_pages active page v n ≤ flag (meets active page v p n) + flag (meets active page v (suc p) n)
  unfolding different_pages meets
  two-counted p zero h = omega arith
  two-counted p (suc n) h =
      one_more _ (active (v + n)) (meets active page v p n) (meets active page v (suc p) n) (meets active page v (page (v + n)) n)
      (eqb (page (v + n)) p) (eqb (page (v + n)) (suc p)) (two-counted p n (λ j l. h j (omega arith)))
      (λ a. ⊎_elim (λ e. inl (rw e, eq-eqb (page (v + n)) p e)) (λ e. inr (rw e, eq-eqb (page (v + n)) (suc p) e)) (h n (omega arith) a))

  -- the first active one of n
  record First (n : ℕ) : Type 0 where
    at : ℕ
    below : at < n
    acts : active (v + at) ≡ true
    least : (j : ℕ) → j < n → active (v + j) ≡ true → at ≤ j

  first_next : (n : ℕ) (q : Bool) → active (v + n) ≡ q → ((j : ℕ) → j < n → active (v + j) ≡ false) ⊎ First n
      → ((j : ℕ) → j < suc n → active (v + j) ≡ false) ⊎ First (suc n)
  first_next n q e (inr f) = inr (record {
    at = f.at;
    below = omega (arith, f.below);
    acts = f.acts;
    least = λ j l a. elim (dec_lt j n) [
      | yes y ↦ f.least j y a
      | no y ↦ omega (arith, f.below)
    ];
  })
  first_next n true e (inl h) = inr (record {
    at = n;
    below = omega arith;
    acts = e;
    least = λ j l a. elim (dec_lt j n) [
      | yes y ↦ absurd (let z : true ≡ false = sym a ∙ h j y in let o : ◌≡◌ {A = ℕ} 0 1 = cc in omega arith)
      | no y ↦ omega arith
    ];
  })
  first_next n false e (inl h) = inl (λ j l. elim (dec_lt j n) [
    | yes y ↦ h j y
    | no y ↦ let z : j ≡ n = omega arith in rw z e
  ])

  first : (n : ℕ) → ((j : ℕ) → j < n → active (v + j) ≡ false) ⊎ First n
  first zero = inl (λ j l. absurd (omega arith))
  first (suc n) = first_next n (active (v + n)) refl (first n)

  -- where they ascend, and by no more than one page
  pages-most : (n : ℕ)
      → ((i j : ℕ) → i ≤ j → j < n → active (v + i) ≡ true → (page (v + i) ≤ page (v + j)) × (page (v + j) ≤ suc (page (v + i))))
      → different_pages active page v n ≤ 2
  pages-most n h = ⊎_elim
      (λ q. by-page 0 (λ j l a. absurd (let z : true ≡ false = sym a ∙ q j l in let o : ◌≡◌ {A = ℕ} 0 1 = cc in omega arith)))
      (λ f. by-page (page (v + f.at)) (λ j l a.
      let near = h f.at j (f.least j l a) l f.acts in
      elim (dec_lt (page (v + f.at)) (page (v + j))) [
        | yes y ↦ inr (omega (arith, near.1))
        | no y ↦ inl (omega (arith, near.0))
      ]))
      (first n)
    where
      by-page : (p : ℕ) → ((j : ℕ) → j < n → active (v + j) ≡ true → (page (v + j) ≡ p) ⊎ (page (v + j) ≡ suc p))
          → different_pages active page v n ≤ 2
      by-page p k =
          omega (arith, two-counted p n k, flag-most (meets active page v p n), flag-most (meets active page v (suc p) n))

-- ---- the access

module _ (active : ℕ → Bool) (rights : List ℕ) (memory : ℕ) (t : Transfer) (v : ℕ) where
  abbrev page : ℕ → ℕ
  page i = page_of (element_address t i 0)

  abbrev inside : ℕ → Bool
  inside i = page_tested memory (element_address t i 0) t.bytes

  -- the elements are tested upward, and some end comes of it
  pub record Found (m : ℕ) : Type 0 where
    pub result : Checked
    pub tested : Tested active rights memory t v m result

  found-next : (m : ℕ) (x : Result ⊤ Fault) → test_of active rights memory t (v + m) ≡ x → Found m → Found (suc m)
  found-next m x e f = go f.result f.tested x e
    where
      go : (r : Checked) → Tested active rights memory t v m r → (y : Result ⊤ Fault) → test_of active rights memory t (v + m) ≡ y
          → Found (suc m)
      go _ (first-faults k f l h q) y z = record { result = _; tested = first-faults k f (omega arith) h q }
      go _ (none-faults h) (Err f) z = record { result = _; tested = first-faults m f (omega arith) h z }
      go _ (none-faults h) (Ok tt) z = record {
        result = _;
        tested = none-faults (λ j l. elim (dec_lt j m) [
          | yes y ↦ h j y
          | no y ↦ let o : j ≡ m = omega arith in rw o z
        ]);
      }

  pub found : (m : ℕ) → Found m
  found zero = record { result = _; tested = none-faults (λ j l. absurd (omega arith)) }
  found (suc m) = found-next m (test_of active rights memory t (v + m)) refl (found m)

  module _ (n : ℕ) (g : Packed memory t v n) where
    near-pages : (i j : ℕ) → i ≤ j → j < n → inside (v + i) ≡ true
        → (page (v + i) ≤ page (v + j)) × (page (v + j) ≤ suc (page (v + i)))
    near-pages i j l m h =
        let o = later memory t v n g i j l m h in
        let d : (j - i) * t.bytes ≤ n * t.bytes = mul-le-mul_right t.bytes (omega arith) in
        (omega (arith, o), omega (arith, o, d, g.short))

    -- of the first elements, as many as have their pages tested
    first-pages : (m : ℕ) → m ≤ n → ((i : ℕ) → i < m → active (v + i) ≡ true → inside (v + i) ≡ true)
        → different_pages active page v m ≤ 2
    first-pages m l h = pages-most active page v m (λ i j k o a. near-pages i j k (omega arith) (h i (omega arith) a))

    pub at_most_two : (r : Checked) → Tested active rights memory t v n r → r.pages ≤ 2
    at_most_two _ (none-faults h) = first-pages n (omega arith) (λ i l a. granted-inside active rights memory t (v + i) a (h i l))
    at_most_two _ (first-faults k f l h q) = go (inside (v + k)) refl
      where
        go : (y : Bool) → inside (v + k) ≡ y → different_pages active page v (k + flag y) ≤ 2
        go false z = first-pages (k + 0) (omega arith) (λ i m a. granted-inside active rights memory t (v + i) a (h i (omega arith)))
        go true z = first-pages (k + 1) (omega arith) (λ i m a. elim (dec_lt i k) [
          | yes y ↦ granted-inside active rights memory t (v + i) a (h i y)
          | no y ↦ let o : i ≡ k = omega arith in rw o z
        ])
