-- A unit-stride access without a mask, by its pages: the start's alignment, how many elements lie inside memory, and the first closed page.
use Rattle.std.specs.Prelude.{Ok}
use Prim.Native.Nat.{ℕ, zero, suc, ◌+◌, ◌-◌, ◌*◌, ◌/◌, ◌%◌, ◌≤◌, ◌<◌, min}
use mathlib.Core.Path.{◌≡◌, refl, sym, ap, subst, ◌∙◌}
use mathlib.Core.Bool.{Bool, true, false}
use mathlib.Core.List.{List}
use native.Mathlib.Omega.{arith}
use native.Mathlib.Nat.{add-zero, mul-le-mul_right}
use native.Mathlib.Numerals.{add-one}
use native.Mathlib.Decide.{dec_lt}
use lib.ListN.{get_or}
use lib.Dec.{T, eqb}
use Rattle.layout.specs.Layout.{byte_size}
use Rattle.layout.proofs.WidthLaws.{size-elim, size-pos}
use Rattle.answer.specs.declared.Answer.{Answer}
use Rattle.answer.specs.declared.Answer.TheVariants.{Finished}
use Rattle.access.specs.declared.Wanted.{Wanted}
use Rattle.access.specs.Access.{page_of, needed, nothing_wanted, fault_of, misaligned, denied}
use Rattle.access.proofs.AccessLaws.{is-aligned, facts-granted, faults-misaligned, faults-past-memory, faults-closed}
use Rattle.plan.specs.declared.Transfer.{Transfer}
use Rattle.machine.specs.Effect.{element_address}
use Rattle.unit_stride.specs.Pages.{different_pages}
use Rattle.std.specs.Prelude.{Option, Some, None, unwrap_or}
use Rattle.unit_stride.specs.Tested.{Packed, Begins, all, test_of, pages_from, Tested, FirstClosed}
use Rattle.unit_stride.proofs.PageLaws.{Counted, counted_none, counted_same, counted-new}
use Rattle.unit_stride.proofs.TestedLaws.{finishes, faults}
use Rattle.unit_stride.proofs.PackedLaws.{page-tested, untested-outside, onward}

-- ---- numbers: a start s that is a multiple of the size k, in a memory of m bytes

module _ (s j : ℕ) where
  stays_aligned : (k : ℕ) → T (byte_size k) → s % k ≡ 0 → (s + j * k) % k ≡ 0
  stays_aligned =
      size-elim (λ k. s % k ≡ 0 → (s + j * k) % k ≡ 0) (λ e. omega arith) (λ e. omega arith) (λ e. omega arith) (λ e. omega arith)

  -- element j is inside memory where j is below (m - s) / k, and nowhere else
  is-inside : (m k : ℕ) → T (byte_size k) → j < (m - s) / k → s + j * k + k ≤ m
  is-inside m =
      size-elim (λ k. j < (m - s) / k → s + j * k + k ≤ m) (λ l. omega arith) (λ l. omega arith) (λ l. omega arith) (λ l. omega arith)

  is-outside : (m k : ℕ) → T (byte_size k) → (m - s) / k ≤ j → m < s + j * k + k
  is-outside m =
      size-elim (λ k. (m - s) / k ≤ j → m < s + j * k + k) (λ l. omega arith) (λ l. omega arith) (λ l. omega arith) (λ l. omega arith)

  -- the elements before the first one on page c lie on pages before it
  before-page : (c k : ℕ) → T (byte_size k) → s % k ≡ 0 → j < (256 * c - s) / k → (s + j * k) / 256 < c
  before-page c =
      size-elim (λ k. s % k ≡ 0 → j < (256 * c - s) / k → (s + j * k) / 256 < c) (λ e l. omega arith) (λ e l. omega arith)
      (λ e l. omega arith) (λ e l. omega arith)

  -- it lies on that page, where the start's page is not past it
  on-page : (c k : ℕ) → T (byte_size k) → s % k ≡ 0 → s / 256 ≤ c → j ≡ (256 * c - s) / k → (s + j * k) / 256 ≡ c
  on-page c =
      size-elim (λ k. s % k ≡ 0 → s / 256 ≤ c → j ≡ (256 * c - s) / k → (s + j * k) / 256 ≡ c) (λ e l q. omega arith)
      (λ e l q. omega arith) (λ e l q. omega arith) (λ e l q. omega arith)

  -- it is not after element j, where that lies on page c or after it
  not_after : (c k : ℕ) → T (byte_size k) → c ≤ (s + j * k) / 256 → (256 * c - s) / k ≤ j
  not_after c =
      size-elim (λ k. c ≤ (s + j * k) / 256 → (256 * c - s) / k ≤ j) (λ l. omega arith) (λ l. omega arith) (λ l. omega arith)
      (λ l. omega arith)

  -- from one element to the next the page stays or is the next page
  next-page : (k : ℕ) → T (byte_size k) → (s + suc j * k) / 256 ≤ suc ((s + j * k) / 256)
  next-page =
      size-elim (λ k. (s + suc j * k) / 256 ≤ suc ((s + j * k) / 256)) (omega arith) (omega arith) (omega arith) (omega arith)

-- ---- the first closed page

module _ (rights : List ℕ) (right first last : ℕ) where
  -- the pages from `first` on and before this one have the right
  pub record Scanned (page : ℕ) : Type 0 where
    pub least : first ≤ page
    pub most : page ≤ suc last
    pub before : (p : ℕ) → first ≤ p → p < page → right ≤ get_or rights p 0

-- ---- the access

pub some-remain : (n : ℕ) → (n ≡ 0 → ⊥) → 1 ≤ n
some-remain n z = omega arith

pub begins : (t : Transfer) (v start : ℕ) → start ≡ element_address t v 0 → (aligned : Bool) → aligned ≡ eqb (start % t.bytes) 0
    → aligned ≡ true → Begins t v start
begins t v start q aligned e f = record { begins = q; aligned = is-aligned start t.bytes aligned e f }

module _ (rights : List ℕ) (memory : ℕ) (t : Transfer) (v n : ℕ) (g : Packed memory t v n) where
  abbrev page : ℕ → ℕ
  page i = page_of (element_address t i 0)

  -- nothing remains
  pub nothing-remains : n ≡ 0
      → Tested all rights memory t v n (record { answer = Finished; element = 0; pages = 0; wanted = nothing_wanted })
  unfolding different_pages
  nothing-remains z = finishes all rights memory t v n 0 (λ j l. absurd (omega arith)) (rw z)

  module _ (start : ℕ) (q : start ≡ element_address t v 0) where
    first-address : element_address t (v + 0) 0 ≡ start
    first-address = ap (λ (i : ℕ). element_address t i 0) (add-zero v) ∙ sym q

    pub at-misaligned : (x : Answer) (aligned : Bool) → (n ≡ 0 → ⊥) → aligned ≡ eqb (start % t.bytes) 0 → aligned ≡ false
        → x ≡ misaligned t.store
        → Tested all rights memory t v n (record { answer = x; element = v; pages = 0; wanted = nothing_wanted })
    unfolding different_pages
    at-misaligned x aligned l e f p =
        faults all rights memory t v n 0 v 0 x nothing_wanted (fault_of (misaligned t.store) start nothing_wanted) (omega arith)
        (λ j m. absurd (omega arith))
        (rw first-address
        (sym (faults-misaligned rights memory t.store start t.bytes _ (misaligned t.store) aligned e f refl refl)))
        (sym p) refl (add-zero v)
        (rw (first-address, sym e ∙ f))

  -- so many lie inside memory
  module _ (start inside d : ℕ) (h : Begins t v start) (less : d ≡ memory - start) (smaller : inside ≡ min n (d / t.bytes)) where
    inside-are : inside ≡ min n ((memory - start) / t.bytes)
    inside-are = rw (← less) smaller

    -- element v + j
    abbrev at : ℕ → ℕ
    at j = start + j * t.bytes

    within : (j : ℕ) → j < inside → at j + t.bytes ≤ memory
    within j l = is-inside start j memory t.bytes g.size (omega (arith, inside-are))

    multiple : (j : ℕ) → at j % t.bytes ≡ 0
    multiple j = stays_aligned start j t.bytes g.size h.aligned

    here : (j : ℕ) → j ≤ n → start ≤ memory → element_address t (v + j) 0 ≡ at j
    here j l m =
        onward memory t v n g v j (omega (arith, g.few)) (rw (← h.begins) m)
        ∙ ap (λ (s : ℕ). s + j * t.bytes) (sym h.begins)

    there : (j : ℕ) → j < inside → element_address t (v + j) 0 ≡ at j
    there j l = here j (omega (arith, inside-are)) (omega (arith, within j l))

    granted-at : (j : ℕ) → j < inside → needed t.store ≤ get_or rights (page_of (at j)) 0 → test_of all rights memory t (v + j) ≡ Ok tt
    granted-at j l r =
        rw (there j l)
        (facts-granted rights memory t.store (at j) t.bytes (record { aligned = multiple j; inside = within j l; right = r }))

    -- the pages of the first elements follow one another
    abbrev CountedTo : ℕ → Type 0
    CountedTo j = Counted all page v (suc j) (suc (page_of (at j)) - start / 256) (suc (page_of (at j)))

    counted_next : (j : ℕ) → suc j < inside → CountedTo j → CountedTo (suc j)
    counted_next j l c = go (dec_lt (page_of (at j)) (page_of (at (suc j))))
      where
        p : page (v + suc j) ≡ page_of (at (suc j))
        p = ap page_of (there (suc j) l)

        go : Dec (page_of (at j) < page_of (at (suc j))) → CountedTo (suc j)
        go (yes m) =
            let more : suc (page_of (at (suc j))) - start / 256 ≡ suc (suc (page_of (at j)) - start / 256) =
            omega (arith, next-page start j t.bytes g.size) in
            rw (more, ← p) (counted-new all page v (suc j) _ _ c refl (rw p m))
        go (no m) =
            let same : page_of (at (suc j)) ≡ page_of (at j) = omega arith in
            rw same (counted_same all page v (suc j) _ _ c refl (ap suc (p ∙ same)))

    counted : (j : ℕ) → j < inside → CountedTo j
    counted zero l =
        let p : page (v + 0) ≡ start / 256 = ap page_of (first-address start h.begins) in
        let z : at 0 ≡ start = omega arith in
        let one : suc (start / 256) - start / 256 ≡ 1 = omega arith in
        rw (z, one, ← p) (counted-new all page v 0 0 0 (counted_none all page v) refl (omega arith))
    counted (suc j) l = counted_next j l (counted j (omega arith))

    pub at-outside : (x : Answer) → 1 ≤ n → inside ≡ 0 → x ≡ denied t.store
        → Tested all rights memory t v n (record { answer = x; element = v; pages = 0; wanted = nothing_wanted })
    unfolding different_pages
    at-outside x l z p =
        let o : memory < at 0 + t.bytes = is-outside start 0 memory t.bytes g.size (omega (arith, inside-are)) in
        let e : element_address t (v + 0) 0 ≡ start = first-address start h.begins in
        faults all rights memory t v n 0 v 0 x nothing_wanted (fault_of (denied t.store) start nothing_wanted) (omega arith)
        (λ j m. absurd (omega arith))
        (rw e (sym (faults-past-memory rights memory t.store start t.bytes h.aligned _ (denied t.store) g.size
        (omega (arith, size-pos t.bytes g.size)) refl refl)))
        (sym p) refl (add-zero v) (rw (e, untested-outside memory start t.bytes h.aligned (omega arith)))

    -- at least one element lies inside
    module _ (some : inside ≡ 0 → ⊥) where
      last_within : at (inside - 1) + t.bytes ≤ memory
      last_within = within (inside - 1) (omega arith)

      -- an access has at most 128 bytes
      pub two-pages : (start + (inside - 1) * t.bytes) / 256 ≤ start / 256 + 1
      two-pages =
          let m : (inside - 1) * t.bytes ≤ n * t.bytes = mul-le-mul_right t.bytes (omega (arith, inside-are)) in
          omega (arith, g.short)

      pub last-page : (start + (inside - 1) * t.bytes) / 256 < 256
      last-page = omega (arith, last_within, g.memory-length, size-pos t.bytes g.size)

      module _ (closed right : ℕ) (r : right ≡ needed t.store) (found : Option ℕ)
          (c : FirstClosed rights right (start / 256) ((start + (inside - 1) * t.bytes) / 256) found)
          (z : closed ≡ unwrap_or found (suc (page_of (at (inside - 1))))) where
        open_at : (j : ℕ) → j < inside → page_of (at j) < closed → test_of all rights memory t (v + j) ≡ Ok tt
        open_at j l m = granted-at j l (rw (← r) (c.before (page_of (at j)) (omega arith) (rw z at m)))

        not-past-last : (j : ℕ) → j < inside → page_of (at j) ≤ page_of (at (inside - 1))
        not-past-last j l = let m : j * t.bytes ≤ (inside - 1) * t.bytes = mul-le-mul_right t.bytes (omega arith) in omega arith

        -- what is wanted of a page
        abbrev wanted_of : ℕ → Wanted
        wanted_of p = record { page = p; right = right }

        pub at-closed : (x : Answer) (d : ℕ) → found ≡ Some closed → d ≡ 256 * closed - start → x ≡ denied t.store
            → Tested all rights memory t v n
            (record {
              answer = x;
              element = v + d / t.bytes;
              pages = closed - start / 256 + 1;
              wanted = wanted_of closed;
            })
        at-closed x d l e p =
            faults all rights memory t v n k (v + d / t.bytes) (closed - start / 256 + 1) x (wanted_of closed)
            (fault_of (denied t.store) (at k) (wanted_of (at k / 256)))
            (omega (arith, m, inside-are))
            (λ j q. open_at j (omega (arith, m)) (before-page start j closed t.bytes g.size h.aligned q))
            (rw (there k m) (sym (faults-closed rights memory t.store (at k) t.bytes (multiple k)
            right (omega (arith, within k m, size-pos t.bytes g.size)) r _ (denied t.store) (rw o lacking.1.1) refl refl)))
            (sym p) (ap wanted_of o) (ap (λ (y : ℕ). v + y / t.bytes) (sym e))
            (rw (there k m, page-tested memory (at k) t.bytes (multiple k) (within k m), add-one k)
            ((counted k m).count ∙ rw o (omega (arith, lacking.0))))
          where
            k : ℕ
            k = (256 * closed - start) / t.bytes

            lacking : (start / 256 ≤ closed) × ((closed ≤ page_of (at (inside - 1))) × (get_or rights closed 0 < right))
            lacking = c.closed closed l

            m : k < inside
            m = omega (arith, not_after start (inside - 1) closed t.bytes g.size lacking.1.0)

            o : at k / 256 ≡ closed
            o = on-page start k closed t.bytes g.size h.aligned lacking.0 refl

        -- no page of theirs is closed
        module _ (e : found ≡ None) where
          q : page_of (at (inside - 1)) < closed
          q = rw (z, e) (omega arith)

          all-open : (j : ℕ) → j < inside → test_of all rights memory t (v + j) ≡ Ok tt
          all-open j l = open_at j l (omega (arith, q, not-past-last j l))

          all-pages : pages_from all rights memory t v inside ≡ page_of (at (inside - 1)) - start / 256 + 1
          all-pages =
              let e : suc (inside - 1) ≡ inside = omega arith in
              subst (λ (m : ℕ). pages_from all rights memory t v m ≡ suc (page_of (at (inside - 1))) - start / 256) e
              (counted (inside - 1) (omega arith)).count
              ∙ omega arith

          pub at-end : (x : Answer) → inside < n → x ≡ denied t.store
              → Tested all rights memory t v n
              (record {
                answer = x;
                element = v + inside;
                pages = page_of (at (inside - 1)) - start / 256 + 1;
                wanted = nothing_wanted;
              })
          at-end x l p =
              let w : element_address t (v + inside) 0 ≡ at inside = here inside (omega arith) (omega (arith, last_within)) in
              let o : memory < at inside + t.bytes = is-outside start inside memory t.bytes g.size (omega (arith, inside-are)) in
              faults all rights memory t v n inside (v + inside) _ x nothing_wanted
              (fault_of (denied t.store) (at inside) nothing_wanted) l all-open
              (rw w (sym (faults-past-memory rights memory t.store (at inside) t.bytes (multiple inside)
              _ (denied t.store) g.size (omega (arith, size-pos t.bytes g.size)) refl refl)))
              (sym p) refl refl
              (rw (w, untested-outside memory (at inside) t.bytes (multiple inside) o, add-zero) all-pages)

          pub at_clear : n ≤ inside
              → Tested all rights memory t v n
              (record {
                answer = Finished;
                element = 0;
                pages = page_of (at (inside - 1)) - start / 256 + 1;
                wanted = nothing_wanted;
              })
          at_clear l =
              let e : inside ≡ n = omega (arith, inside-are) in
              finishes all rights memory t v n _ (λ j m. all-open j (omega arith)) (rw (← e) all-pages)
