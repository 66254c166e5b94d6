-- The access test of one element (document 01, 'One turn and its answer'): alignment, then end of memory and right; what a fault tells
-- (document 02, A9); and the test of the fields of a segment (A1).
use Rattle.std.specs.Prelude.{ℕ, zero, suc, ◌+◌, ◌*◌, ◌/◌, ◌%◌, ◌^◌, Bool, cond, not, List, ◌==◌, nat_le, slice_index, Result, Ok, Err, ⊤}
use Rattle.answer.specs.declared.Answer.{Answer}
use Rattle.answer.specs.declared.Answer.TheVariants.{LoadMisaligned, LoadAccess, StoreMisaligned, StoreAccess}
use Rattle.access.specs.declared.Wanted.{Wanted}
use Rattle.access.specs.declared.FaultPlace.{FaultPlace}
use Rattle.access.specs.declared.Fault.{Fault}

-- a page has 256 bytes
abbrev pub page_of : ℕ → ℕ
page_of a = a / 256

-- the right that an access needs: 1 read, 2 read and write
abbrev pub needed : Bool → ℕ
needed store = cond store 2 1

-- ---- what a fault tells

-- "the page and the right it wanted: 1 for loads, 2 for stores" (A9): of the page of the element's first byte
abbrev pub wanted_at : Bool → ℕ → Wanted
wanted_at store a = record { page = page_of a; right = needed store }

-- "Past the end of memory, or misaligned, the page is 256 and the right 0", and so "Answers without a memory trap": no page was asked
abbrev pub nothing_wanted : Wanted
nothing_wanted = record { page = 256; right = 0 }

-- "a fault address: the first byte of the faulting element, modulo 2^64, for 4 to 7"
abbrev pub fault_of : Answer → ℕ → Wanted → Fault
fault_of answer a wanted = record { answer = answer; place = record { address = a; wanted = wanted } }

abbrev pub fault_at : Answer → ℕ → Wanted → Result ⊤ Fault
fault_at answer a wanted = Err (fault_of answer a wanted)

-- beside all other answers the address is 0
abbrev pub nowhere : FaultPlace
nowhere = record { address = 0; wanted = nothing_wanted }

-- answers 4 and 6, 5 and 7
abbrev pub misaligned : Bool → Answer
misaligned store = cond store StoreMisaligned LoadMisaligned

abbrev pub denied : Bool → Answer
denied store = cond store StoreAccess LoadAccess

-- the element of n bytes at address a, by the pages' rights and the number of bytes of memory. An aligned element lies on the page of its
-- first byte (`OnePage`)
unfoldable pub access_of : List ℕ → ℕ → Bool → ℕ → ℕ → Result ⊤ Fault
access_of rights memory store a n =
    cond (not (a % n == 0)) (fault_at (misaligned store) a nothing_wanted)
    (cond (not (nat_le (a + n) memory)) (fault_at (denied store) a nothing_wanted)
    (cond (nat_le (needed store) (slice_index rights (page_of a))) (Ok tt)
    (fault_at (denied store) a (wanted_at store a))))

-- ---- the fields of a segment: each of n bytes, the first at address a

-- field k; "addresses modulo 2^64"
abbrev pub field_address : ℕ → ℕ → ℕ → ℕ
field_address a n k = (a + k * n) % 2 ^ 64

-- the first test that faults decides
abbrev pub or_next : Result ⊤ Fault → Result ⊤ Fault → Result ⊤ Fault
or_next (Ok tt) next = next
or_next (Err f) next = Err f

-- "Fields are checked upward before any of the segment moves" (A1): so many of them, from field k on
unfoldable pub fields_access : List ℕ → ℕ → Bool → ℕ → ℕ → ℕ → ℕ → Result ⊤ Fault
fields_access rights memory store a n k zero = Ok tt
fields_access rights memory store a n k (suc others) =
    or_next (access_of rights memory store (field_address a n k) n) (fields_access rights memory store a n (suc k) others)
