-- For contracts of inner functions, not to be believed: what comes of testing the elements of a unit-stride access, by pages or one after
-- the other, and what these functions rely on.
use Rattle.std.specs.Prelude.{ℕ, suc, ◌+◌, ◌*◌, ◌%◌, ◌≤◌, ◌<◌, ◌≡◌, Bool, true, ◌&&◌, cond, List, get_or, T, leb}
use Rattle.std.specs.Prelude.{Result, Ok, Err, ⊤, Option, Some, unwrap_or}
use Rattle.width.specs.Width.{flag}
use Rattle.answer.specs.declared.Answer.TheVariants.{Finished}
use Rattle.layout.specs.Layout.{byte_size, Inside}
use Rattle.access.specs.declared.Fault.{Fault}
use Rattle.access.specs.Access.{page_of, nothing_wanted, access_of}
use Rattle.plan.specs.declared.Transfer.{Transfer}
use Rattle.machine.specs.Effect.{element_address}
use Rattle.unit_stride.specs.declared.Checked.{Checked}
use Rattle.unit_stride.specs.declared.Tally.{Tally}
use Rattle.unit_stride.specs.Pages.{different_pages, page_tested}

-- the n elements of a unit-stride access from element v up
pub record Packed (memory : ℕ) (t : Transfer) (v n : ℕ) : Type 0 where
  pub memory-length : memory ≤ 65536
  pub size : T (byte_size t.bytes)
  pub stride : t.stride ≡ t.bytes
  pub few : v + n ≤ 256
  pub short : n * t.bytes ≤ 128

-- they begin at an aligned address
pub record Begins (t : Transfer) (v start : ℕ) : Type 0 where
  pub begins : start ≡ element_address t v 0
  pub aligned : start % t.bytes ≡ 0

-- the mask bits of the n elements from v up lie in a register file of so many bytes
abbrev pub MaskInside : ℕ → ℕ → ℕ → ℕ → Type 0
MaskInside size vlenb v n = (k : ℕ) → k < n → Inside size vlenb 0 1 (v + k)

-- no mask: every element is active
abbrev pub all : ℕ → Bool
all i = true

module _ (active : ℕ → Bool) (rights : List ℕ) (memory : ℕ) (t : Transfer) where
  -- element i
  abbrev pub test_of : ℕ → Result ⊤ Fault
  test_of i = cond (active i) (access_of rights memory t.store (element_address t i 0) t.bytes) (Ok tt)

  abbrev pub pages_from : ℕ → ℕ → ℕ
  pages_from v n = different_pages active (λ (i : ℕ). page_of (element_address t i 0)) v n

  -- none of the n elements from v up faults, or element v + k is the first that does
  pub data Tested (v n : ℕ) : Checked → Type 0 where
    none-faults : ((j : ℕ) → j < n → test_of (v + j) ≡ Ok tt)
        → Tested v n (record { answer = Finished; element = 0; pages = pages_from v n; wanted = nothing_wanted })
    first-faults : (k : ℕ) (f : Fault) → k < n → ((j : ℕ) → j < k → test_of (v + j) ≡ Ok tt) → test_of (v + k) ≡ Err f
        → Tested v n (record {
          answer = f.answer;
          element = v + k;
          pages = pages_from v (k + flag (page_tested memory (element_address t (v + k) 0) t.bytes));
          wanted = f.place.wanted;
        })

-- r is the first page from `first` to `last` that lacks the right, if one does: where none does, all to the last have it
pub record FirstClosed (rights : List ℕ) (right first last : ℕ) (r : Option ℕ) : Type 0 where
  pub before : (p : ℕ) → first ≤ p → p < unwrap_or r (suc last) → right ≤ get_or rights p 0
  pub closed : (p : ℕ) → r ≡ Some p → (first ≤ p) × ((p ≤ last) × (get_or rights p 0 < right))

-- the tally with one page more where that is tested and was not before; pages come in ascending order
abbrev pub tallied_of : Tally → Bool → ℕ → Tally
tallied_of c tested page = cond (tested && leb c.next page) (record { pages = c.pages + 1; next = page + 1 }) c
