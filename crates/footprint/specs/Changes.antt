-- An instruction run in turns, with changes between them of what it neither reads nor writes (document 02, A12).
use Rattle.std.specs.Prelude.{ℕ, ◌+◌, ◌-◌, ◌/◌, ◌^◌, ◌<◌, ◌≡◌, Bool, false, List, [], ◌∷◌, ◌++◌, set}
use Rattle.answer.specs.declared.Answer.TheVariants.{Finished}
use Rattle.control.specs.declared.Board.{Board}
use Rattle.decode.specs.Word.{decode_of}
use Rattle.machine.specs.State.{State, Outcome, with_rights}
use Rattle.machine.specs.Machine.{plan_at, turn_of}
use Rattle.machine.specs.Demands.{Next, last_rights, Between, turns_of}
use Rattle.footprint.specs.Footprint.{any_of, uses_register, names_scalar, addresses_byte}

-- ---- changes

-- one byte of the register file, one scalar register or one byte of memory, by its index, set to a value. (What is proved holds of every
-- number; past the end of the part nothing is changed)
pub data Change : Type 0 where
  register_byte : ℕ → ℕ → Change
  scalar_register : ℕ → ℕ → Change
  memory_byte : ℕ → ℕ → Change

abbrev pub changed_registers : Change → List ℕ → List ℕ
changed_registers (register_byte k x) file = set file k x
changed_registers (scalar_register r x) file = file
changed_registers (memory_byte a x) file = file

abbrev pub changed_scalars : Change → List ℕ → List ℕ
changed_scalars (register_byte k x) scalars = scalars
changed_scalars (scalar_register r x) scalars = set scalars r x
changed_scalars (memory_byte a x) scalars = scalars

abbrev pub changed_memory : Change → List ℕ → List ℕ
changed_memory (register_byte k x) memory = memory
changed_memory (scalar_register r x) memory = memory
changed_memory (memory_byte a x) memory = set memory a x

-- rights and control record are not changed
abbrev pub with_change : Change → State → State
with_change c s = record {
  registers = changed_registers c s.registers;
  scalars = changed_scalars c s.scalars;
  memory = changed_memory c s.memory;
  rights = s.rights;
  control = s.control;
}

-- one after the other
unfoldable pub with_changes : List Change → State → State
with_changes [] s = s
with_changes (c ∷ others) s = with_changes others (with_change c s)

-- at the state s the word reads, writes, names or addresses what is changed. Byte k of the file is one of register k / VLENB
unfoldable pub touches : Board → ℕ → State → Change → Bool
touches b word s (register_byte k x) = uses_register (plan_at b word s) (k / b.vlenb)
touches b word s (scalar_register r x) = names_scalar (decode_of word) r
touches b word s (memory_byte a x) = addresses_byte b s (plan_at b word s) a

-- ---- turns with changes between them

-- what is changed before a turn after the first, and that turn: its allowance, and the rights that it gets
pub record Resumed : Type 0 where
  pub changes : List Change
  pub next : Next

-- the state that the next turn gets
abbrev pub resumed_state : Resumed → State → State
resumed_state u s = with_rights u.next.rights (with_changes u.changes s)

-- a first turn of n, then the turns us, each from where the one before it stopped and with the changes made there: the last one's answer,
-- with the passed counts added up. Without changes it is `turns_of`
unfoldable pub resumed_turns : Board → ℕ → State → ℕ → List Resumed → Outcome
resumed_turns b word s n [] = turn_of b word n s
resumed_turns b word s n (u ∷ us) =
    let o : Outcome = turn_of b word n s in
    let q : Outcome = resumed_turns b word (resumed_state u o.after) u.next.allowance us in
    record { answer = q.answer; passed = o.passed + q.passed; place = q.place; after = q.after }

-- allowances are below 2^32, no turn before the last answers 0, and pages are only opened, after a trap
abbrev pub ProceedsResumed : Board → ℕ → State → ℕ → List Resumed → Type 0
ProceedsResumed b word s n [] = n < 2 ^ 32
ProceedsResumed b word s n (u ∷ us) =
    (n < 2 ^ 32)
    × (((turn_of b word n s).answer ≡ Finished → ⊥)
    × (Between (turn_of b word n s) u.next
    × ProceedsResumed b word (resumed_state u (turn_of b word n s).after) u.next.allowance us))

-- all changes, in their order; the turns without them
abbrev pub all_changes : List Resumed → List Change
all_changes [] = []
all_changes (u ∷ us) = u.changes ++ all_changes us

abbrev pub turns_alone : List Resumed → List Next
turns_alone [] = []
turns_alone (u ∷ us) = u.next ∷ turns_alone us

abbrev pub without_changes : List Next → List Resumed
without_changes [] = []
without_changes (u ∷ us) = record { changes = []; next = u } ∷ without_changes us

-- an outcome, followed by changes
abbrev pub followed_by : List Change → Outcome → Outcome
followed_by cs o = record { answer = o.answer; passed = o.passed; place = o.place; after = with_changes cs o.after }

-- ---- the statement, on a board b
pub record ChangesFollow (b : Board) : Type 0 where
  -- "if between turns only these change .. then a finished run equals the uncut run from the first state under the last page rights,
  -- followed by those changes in order": answer, passed count, place of a fault and all five parts
  pub uncut : (word n : ℕ) (s : State) (us : List Resumed) → ProceedsResumed b word s n us
      → any_of (touches b word s) (all_changes us) ≡ false
      → (resumed_turns b word s n us).answer ≡ Finished
      → resumed_turns b word s n us
      ≡ followed_by (all_changes us) (turn_of b word (2 ^ 32 - 1) (with_rights (last_rights s.rights (turns_alone us)) s))
  -- demand 3 is the case with no changes
  pub unchanged : (word n : ℕ) (s : State) (us : List Next) → resumed_turns b word s n (without_changes us) ≡ turns_of b word s n us
  -- one turn, whatever it answers, of every word, those that take one turn too: a change before it comes to the same as after it
  pub one-turn : (word n : ℕ) (s : State) (c : Change) → touches b word s c ≡ false
      → turn_of b word n (with_change c s) ≡ followed_by (c ∷ []) (turn_of b word n s)
