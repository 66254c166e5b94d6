-- A unit-stride access under a mask, one element after the other: what the loop keeps, and how each way out meets the contract.
use Rattle.std.specs.Prelude.{Result, Ok, Err, ⊤}
use Prim.Native.Nat.{ℕ, suc, ◌+◌, ◌/◌, ◌≤◌, ◌<◌}
use mathlib.Core.Path.{◌≡◌, refl, sym, ◌∙◌}
use mathlib.Core.Bool.{Bool, true, false, ◌&&◌, cond}
use mathlib.Core.List.{List}
use native.Mathlib.Omega.{arith}
use native.Mathlib.Numerals.{add-one}
use native.Mathlib.Nat.{add-zero}
use native.Mathlib.Decide.{dec_lt}
use lib.Dec.{leb}
use borrow.Author.Tests.{leb-true, leb-false}
use Rattle.width.specs.Width.{flag}
use Rattle.answer.specs.declared.Answer.TheVariants.{Finished}
use Rattle.layout.specs.Layout.{Inside}
use Rattle.access.specs.declared.Fault.{Fault}
use Rattle.access.specs.Access.{page_of, nothing_wanted, access_of}
use Rattle.plan.specs.declared.Transfer.{Transfer}
use Rattle.machine.specs.Effect.{element_address}
use Rattle.unit_stride.specs.declared.Tally.{Tally}
use Rattle.unit_stride.specs.Pages.{page_tested}
use Rattle.unit_stride.specs.Tested.{Packed, MaskInside, test_of, pages_from, Tested, tallied_of}
use Rattle.unit_stride.proofs.PageLaws.{Counted, counted_none, counted-inactive, counted_same, counted-new}
use Rattle.unit_stride.proofs.PackedLaws.{later}
use Rattle.unit_stride.proofs.TestedLaws.{finishes, faults, granted-inside}

-- ---- one page more, or not

pub mask_at : (size vlenb v n k : ℕ) → MaskInside size vlenb v n → k < n → Inside size vlenb 0 1 (v + k)
mask_at size vlenb v n k h l = h k l

-- ---- the loop

module _ (active : ℕ → Bool) (rights : List ℕ) (memory : ℕ) (t : Transfer) (v n : ℕ) where
  abbrev page : ℕ → ℕ
  page i = page_of (element_address t i 0)

  abbrev inside : ℕ → Bool
  inside i = page_tested memory (element_address t i 0) t.bytes

  -- k elements have been passed
  pub record Walking (k : ℕ) (c : Tally) : Type 0 where
    pub within : k ≤ n
    pub passed : (j : ℕ) → j < k → test_of active rights memory t (v + j) ≡ Ok tt
    pub counted : Counted active page v k c.pages c.next
    -- no later element lies before the last page
    pub ascending : (j : ℕ) → k ≤ j → j < n → inside (v + j) ≡ true → c.next ≤ suc (page (v + j))

  pub walking-none : Walking 0 (record { pages = 0; next = 0 })
  walking-none = record {
    within = omega arith;
    passed = λ j l. absurd (omega arith);
    counted = counted_none active page v;
    ascending = λ j l m h. omega arith;
  }

  module _ (g : Packed memory t v n) where
    -- addresses of elements inside memory ascend, and so do their pages
    later-page : (k j : ℕ) → k ≤ j → j < n → inside (v + k) ≡ true → page (v + k) ≤ page (v + j)
    later-page k j l m h = omega (arith, later memory t v n g k j l m h)

    module _ (k : ℕ) (c : Tally) (w : Walking k c) (l : k < n) where
      -- the tally with element k, of which the page is tested where it is active
      tally-counted : (p : Bool) → active (v + k) ≡ p → (p ≡ true → inside (v + k) ≡ true)
          → Counted active page v (suc k) (tallied_of c p (page (v + k))).pages (tallied_of c p (page (v + k))).next
      tally-counted false e h = counted-inactive active page v k c.pages c.next w.counted e
      tally-counted true e h = go (leb c.next (page (v + k))) refl
        where
          go : (q : Bool) → leb c.next (page (v + k)) ≡ q
              → Counted active page v (suc k) (tallied_of c true (page (v + k))).pages (tallied_of c true (page (v + k))).next
          go true f =
              rw (f, add-one c.pages, add-one (page (v + k)))
              (counted-new active page v k c.pages c.next w.counted e (leb-true c.next (page (v + k)) f))
          go false f =
              rw f (counted_same active page v k c.pages c.next w.counted e
              (omega (arith, leb-false c.next (page (v + k)) f, w.ascending k (omega arith) l (h refl))))

      tally-ascending : (p : Bool) → (p ≡ true → inside (v + k) ≡ true) → (j : ℕ) → suc k ≤ j → j < n → inside (v + j) ≡ true
          → (tallied_of c p (page (v + k))).next ≤ suc (page (v + j))
      tally-ascending false h j m o i = w.ascending j (omega arith) o i
      tally-ascending true h j m o i = go (leb c.next (page (v + k))) refl
        where
          go : (q : Bool) → leb c.next (page (v + k)) ≡ q → (tallied_of c true (page (v + k))).next ≤ suc (page (v + j))
          go true f = rw f (omega (arith, later-page k j (omega arith) o (h refl)))
          go false f = rw f (w.ascending j (omega arith) o i)

      -- an element that is granted: its page is tested where it is active
      granted-tested : (p : Bool) → active (v + k) ≡ p → test_of active rights memory t (v + k) ≡ Ok tt → (p && inside (v + k)) ≡ p
      granted-tested false e h = refl
      granted-tested true e h = granted-inside active rights memory t (v + k) e h

      abbrev seen : Tally
      seen = tallied_of c (active (v + k) && inside (v + k)) (page (v + k))

      element-passed : test_of active rights memory t (v + k) ≡ Ok tt → Walking (k + 1) seen
      element-passed h =
          let e : (active (v + k) && inside (v + k)) ≡ active (v + k) = granted-tested (active (v + k)) refl h in
          let i : active (v + k) ≡ true → inside (v + k) ≡ true = λ p. sym (rw p) ∙ e ∙ p in
          rw (e, add-one k) (record {
            within = l;
            passed = λ j m. elim (dec_lt j k) [
              | yes y ↦ w.passed j y
              | no y ↦ let z : j ≡ k = omega arith in rw z h
            ];
            counted = tally-counted (active (v + k)) refl i;
            ascending = tally-ascending (active (v + k)) i;
          })

      -- an element that faults is active
      faulted-active : (p : Bool) (f : Fault) → active (v + k) ≡ p → test_of active rights memory t (v + k) ≡ Err f → p ≡ true
      faulted-active true f e h = refl
      faulted-active false f e h = absurd (let z : ◌≡◌ {A = ℕ} 0 1 = cc in omega arith)

      fault-pages : (q : Bool) → inside (v + k) ≡ q → active (v + k) ≡ true
          → pages_from active rights memory t v (k + flag q) ≡ (tallied_of c q (page (v + k))).pages
      fault-pages true e a = rw (add-one k) (tally-counted true a (λ z. e)).count
      fault-pages false e a = rw add-zero w.counted.count

      element-faulted : (f : Fault) → test_of active rights memory t (v + k) ≡ Err f
          → Tested active rights memory t v n
          (record { answer = f.answer; element = v + k; pages = seen.pages; wanted = f.place.wanted })
      element-faulted f h =
          let a : active (v + k) ≡ true = faulted-active (active (v + k)) f refl h in
          faults active rights memory t v n k (v + k) seen.pages f.answer f.place.wanted f l w.passed h refl refl refl
          (rw a (fault-pages (inside (v + k)) refl a))

      -- from what the code has: whether the element is active, its address, whether its page is tested, the tally after it and its test
      module _ (acts : Bool) (a : ℕ) (tests : Bool) (c' : Tally) (x : Result ⊤ Fault) (p : acts ≡ active (v + k))
          (q : a ≡ element_address t (v + k) 0) (r : tests ≡ page_tested memory a t.bytes) (s : c' ≡ tallied_of c (acts && tests) (a / 256))
          (y : x ≡ cond acts (access_of rights memory t.store a t.bytes) (Ok tt)) where
        the-test : test_of active rights memory t (v + k) ≡ x
        the-test = sym (y ∙ rw (p, q))

        the-tally : c' ≡ seen
        the-tally = s ∙ rw (p, r, q)

        pub walking-more : x ≡ Ok tt → Walking (k + 1) c'
        walking-more z = rw the-tally (element-passed (the-test ∙ z))

        pub walking-fault : (f : Fault) → x ≡ Err f
            → Tested active rights memory t v n
            (record { answer = f.answer; element = v + k; pages = c'.pages; wanted = f.place.wanted })
        walking-fault f z = rw the-tally (element-faulted f (the-test ∙ z))

  pub walking-done : (k : ℕ) (c : Tally) → Walking k c → n ≤ k
      → Tested active rights memory t v n (record { answer = Finished; element = 0; pages = c.pages; wanted = nothing_wanted })
  walking-done k c w l =
      let e : k ≡ n = omega (arith, w.within) in
      finishes active rights memory t v n c.pages (λ j m. w.passed j (omega arith)) (rw (← e) w.counted.count)
