-- Why a fault tells the page and the right that it does (document 02, A9).
use Rattle.std.specs.Prelude.{◌≡◌, ℕ, ◌+◌, ◌%◌, ◌<◌, ◌≤◌, Bool, List, ◌≢◌, slice_index, Ok, Err}
use Rattle.access.specs.declared.Fault.{Fault}
use Rattle.access.specs.Access.{page_of, needed, wanted_at, nothing_wanted, fault_of, misaligned, denied, access_of, fields_access}

-- what is the case of the element of n bytes that a fault is about, by the pages' rights and the number of bytes of memory
pub data Reason (rights : List ℕ) (memory : ℕ) (store : Bool) (n : ℕ) : Fault → Type 0 where
  -- its address is no multiple of its size: no page is asked
  not_aligned : (a : ℕ) → (a % n ≢ 0) → Reason rights memory store n (fault_of (misaligned store) a nothing_wanted)
  -- it reaches past the end of memory: no page is asked, even if that of its first byte is closed
  past_memory : (a : ℕ) → a % n ≡ 0 → memory < a + n → Reason rights memory store n (fault_of (denied store) a nothing_wanted)
  -- it is aligned and inside memory, and its page has less than the right that is wanted
  page-closed : (a : ℕ) → a % n ≡ 0 → a + n ≤ memory → slice_index rights (page_of a) < needed store
      → Reason rights memory store n (fault_of (denied store) a (wanted_at store a))

pub record Reasons : Type 0 where
  -- each fault has one of these reasons: of one element; and of a segment, whose fault is that of the field
  pub element : (rights : List ℕ) (memory : ℕ) (store : Bool) (a n : ℕ) (f : Fault) → access_of rights memory store a n ≡ Err f
      → Reason rights memory store n f
  pub field : (rights : List ℕ) (memory : ℕ) (store : Bool) (a n k others : ℕ) (f : Fault)
      → fields_access rights memory store a n k others ≡ Err f → Reason rights memory store n f
  -- the page that a fault names, opened as far as it says, lets the element through
  pub opened : (rights rights' : List ℕ) (memory : ℕ) (store : Bool) (n : ℕ) (f : Fault) → Reason rights memory store n f
      → f.place.wanted.page < 256 → f.place.wanted.right ≤ slice_index rights' f.place.wanted.page
      → access_of rights' memory store f.place.address n ≡ Ok tt
