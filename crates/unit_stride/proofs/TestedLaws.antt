-- What comes of testing the elements, from what the code has: an answer, an element, a number of pages, and what was wanted of a page.
use Rattle.std.specs.Prelude.{Ok, Err}
use Prim.Native.Nat.{ℕ, ◌+◌, ◌<◌}
use mathlib.Core.Path.{◌≡◌}
use mathlib.Core.Bool.{Bool, true}
use mathlib.Core.List.{List}
use Rattle.width.specs.Width.{flag}
use Rattle.answer.specs.declared.Answer.{Answer}
use Rattle.answer.specs.declared.Answer.TheVariants.{Finished}
use Rattle.access.specs.declared.Wanted.{Wanted}
use Rattle.access.specs.declared.Fault.{Fault}
use Rattle.access.specs.Access.{nothing_wanted}
use Rattle.access.proofs.AccessLaws.{granted-facts}
use Rattle.plan.specs.declared.Transfer.{Transfer}
use Rattle.machine.specs.Effect.{element_address}
use Rattle.unit_stride.specs.Pages.{page_tested}
use Rattle.unit_stride.proofs.PackedLaws.{page-tested}
use Rattle.unit_stride.specs.Tested.{test_of, pages_from, Tested, none-faults, first-faults}

module _ (active : ℕ → Bool) (rights : List ℕ) (memory : ℕ) (t : Transfer) (v n : ℕ) where
  pub finishes : (pages : ℕ) → ((j : ℕ) → j < n → test_of active rights memory t (v + j) ≡ Ok tt)
      → pages_from active rights memory t v n ≡ pages
      → Tested active rights memory t v n (record { answer = Finished; element = 0; pages = pages; wanted = nothing_wanted })
  finishes pages h e = rw (← e) (none-faults h)

  pub faults : (k element pages : ℕ) (x : Answer) (w : Wanted) (f : Fault) → k < n
      → ((j : ℕ) → j < k → test_of active rights memory t (v + j) ≡ Ok tt)
      → test_of active rights memory t (v + k) ≡ Err f → f.answer ≡ x → f.place.wanted ≡ w → v + k ≡ element
      → pages_from active rights memory t v (k + flag (page_tested memory (element_address t (v + k) 0) t.bytes)) ≡ pages
      → Tested active rights memory t v n (record { answer = x; element = element; pages = pages; wanted = w })
  faults k element pages x w f l h g p o q e = rw (← p, ← o, ← q, ← e) (first-faults k f l h g)

-- an active element that is granted is inside memory
module _ (active : ℕ → Bool) (rights : List ℕ) (memory : ℕ) (t : Transfer) where
  pub granted-inside : (i : ℕ) → active i ≡ true → test_of active rights memory t i ≡ Ok tt
      → page_tested memory (element_address t i 0) t.bytes ≡ true
  granted-inside i a h =
      let f = granted-facts rights memory t.store (element_address t i 0) t.bytes (rw a at h) in
      page-tested memory _ _ f.aligned f.inside

-- ---- with a mask or without
