-- Each fault has a reason.
use Rattle.std.proofs.Common.{◌≡◌, ℕ, zero, suc, ◌<◌, ◌≤◌, Bool, List, get_or, subst, arith}
use Rattle.std.specs.Prelude.{Result, Ok, Err, ⊤}
use Rattle.access.specs.declared.Fault.{Fault}
use Rattle.access.specs.Access.{access_of, field_address, or_next, fields_access}
use Rattle.access.specs.Reason.{Reason, not_aligned, past_memory, page-closed, Reasons}
use Rattle.access.proofs.AccessLaws.{facts-granted, access-cases}

module _ (rights : List ℕ) (memory : ℕ) (store : Bool) (n : ℕ) where
  -- an outcome of the test: where it is a fault, there is a reason
  abbrev Explained : Result ⊤ Fault → Type 0
  Explained (Ok tt) = Unit {0}
  Explained (Err f) = Reason rights memory store n f

  of-element : (a : ℕ) → Explained (access_of rights memory store a n)
  of-element a = access-cases rights memory store a n Explained (not_aligned a) (past_memory a) (page-closed a) (λ g. tt)

  of-next : (v w : Result ⊤ Fault) → Explained v → Explained w → Explained (or_next v w)
  of-next (Ok tt) w g h = h
  of-next (Err f) w g h = g

  of_fields : (a k others : ℕ) → Explained (fields_access rights memory store a n k others)
  unfolding fields_access
  of_fields a k zero = tt
  of_fields a k (suc others) =
      of-next (access_of rights memory store (field_address a n k) n) (fields_access rights memory store a n (suc k) others)
      (of-element (field_address a n k)) (of_fields a (suc k) others)

  opened : (rights' : List ℕ) (f : Fault) → Reason rights memory store n f
      → f.place.wanted.page < 256 → f.place.wanted.right ≤ get_or rights' f.place.wanted.page 0
      → access_of rights' memory store f.place.address n ≡ Ok tt
  opened rights' _ (not_aligned a e) l h = absurd (omega arith)
  opened rights' _ (past_memory a e o) l h = absurd (omega arith)
  opened rights' _ (page-closed a e i r) l h = facts-granted rights' memory store a n (record { aligned = e; inside = i; right = h })

pub reasons : Reasons
reasons = record {
  element = λ rights memory store a n f e. subst (Explained rights memory store n) e (of-element rights memory store n a);
  field = λ rights memory store a n k others f e. subst (Explained rights memory store n) e (of_fields rights memory store n a k others);
  opened = λ rights rights' memory store n. opened rights memory store n rights';
}
