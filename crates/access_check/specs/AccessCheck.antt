-- The access check (document 02, A2): what an uncut turn of a unit-stride access would answer, at which element, how many pages are
-- tested for that, and which right of which page is wanted (A9).
use Rattle.std.specs.Prelude.{ℕ, ◌+◌, ◌-◌, ◌^◌, Bool, true, false, ◌&&◌, cond, length, eqb}
use Rattle.width.specs.Width.{flag}
use Rattle.answer.specs.declared.Answer.{Answer}
use Rattle.answer.specs.declared.Answer.TheVariants.{Illegal}
use Rattle.control.specs.declared.Board.{Board}
use Rattle.decode.specs.declared.Mode.{Mode}
use Rattle.decode.specs.declared.Mode.TheVariants as M
use Rattle.decode.specs.declared.Instruction.{Instruction}
use Rattle.decode.specs.declared.Instruction.TheVariants as I
use Rattle.decode.specs.Word.{decode_of}
use Rattle.access.specs.Access.{page_of, nothing_wanted}
use Rattle.plan.specs.declared.Action.{Action}
use Rattle.plan.specs.declared.Action.TheVariants as A
use Rattle.plan.specs.declared.Transfer.{Transfer}
use Rattle.plan.specs.declared.Elementwise.{Elementwise}
use Rattle.plan.specs.declared.Plan.{Plan}
use Rattle.plan.specs.declared.Plan.TheVariants as P
use Rattle.machine.specs.State.{State, Outcome}
use Rattle.machine.specs.Effect.{active_of, element_address}
use Rattle.machine.specs.Machine.{plan_at, turn_of}
use Rattle.machine.specs.Demands.{is_trap, changes_nothing}
use Rattle.unit_stride.specs.declared.Checked.{Checked}
use Rattle.unit_stride.specs.Pages.{different_pages, page_tested}

-- ---- the words that it is for: "a plain, mask or whole-register unit-stride access". With several fields it is a segment's, and not plain

abbrev pub unit_stride_mode : Mode → ℕ → Bool
unit_stride_mode M.UnitStride nf = eqb nf 0
unit_stride_mode (M.Strided r) nf = false
unit_stride_mode (M.Indexed r) nf = false
unit_stride_mode M.MaskBytes nf = true
unit_stride_mode (M.Whole n) nf = true

abbrev pub is_unit_stride : Instruction → Bool
is_unit_stride I.Illegal = false
is_unit_stride (I.Arithmetic a) = false
is_unit_stride (I.Mask m) = false
is_unit_stride (I.Reduction a) = false
is_unit_stride (I.Permutation a) = false
is_unit_stride (I.Pack a) = false
is_unit_stride (I.ScalarMove a) = false
is_unit_stride (I.Setting t) = false
is_unit_stride (I.Memory a) = unit_stride_mode a.mode a.nf

-- ---- the check

-- of the state before and the outcome of the turn. A unit-stride access has one field and no offsets: element i lies at
-- `element_address t i 0`
module _ (b : Board) (s : State) (o : Outcome) where
  -- the first faulty element is the one after those passed; its page is tested "unless it is misaligned or past memory"
  abbrev pub faulty_tested : Transfer → Bool
  faulty_tested t =
      is_trap o.answer && page_tested (length s.memory) (element_address t (s.control.vstart + o.passed) 0) t.bytes

  -- "the number of different pages of the active elements before the first faulty one, and of that one unless ..". An operation has none:
  -- it is no unit-stride access
  unfoldable pub pages_tested : Elementwise → Action → ℕ
  pages_tested e (A.Compute k) = 0
  pages_tested e (A.Permute p) = 0
  pages_tested e (A.Transfer t) =
      different_pages (active_of b.vlenb s.registers e.masked) (λ (i : ℕ). page_of (element_address t i 0)) s.control.vstart
      (o.passed + flag (faulty_tested t))

  abbrev pub plan_pages : Plan → ℕ
  plan_pages P.Illegal = 0
  plan_pages (P.OneTurn t) = 0
  plan_pages (P.Elements e) = pages_tested e e.action

-- "a refusal shows element 0 and 0 pages", and so does 2
abbrev pub nothing_tested : Answer → Checked
nothing_tested a = record { answer = a; element = 0; pages = 0; wanted = nothing_wanted }

-- "Either way it equals what a turn with enough allowance answers". Where the turn traps, vstart after it is the element; where it
-- finishes, that is 0. "Refusals: 32 to 36 and 2 as for a turn; any word but .. unit-stride access is 2"
unfoldable pub access_check_of : Board → ℕ → State → Checked
access_check_of b word s =
    let o : Outcome = turn_of b word (2 ^ 32 - 1) s in
    cond (changes_nothing o.answer) (nothing_tested o.answer)
    (cond (is_unit_stride (decode_of word))
    (record {
      answer = o.answer;
      element = o.after.control.vstart;
      pages = plan_pages b s o (plan_at b word s);
      wanted = o.place.wanted;
    })
    (nothing_tested Illegal))
