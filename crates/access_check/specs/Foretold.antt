-- The access check in a teacher's words (document 02, A2 and A9): what it says beforehand of the turn, as a statement on every word and
-- state, on a board b.
use Rattle.std.specs.Prelude.{ℕ, ◌-◌, ◌^◌, ◌≤◌, ◌≡◌, true, false, length, Ok}
use Rattle.answer.specs.declared.Answer.TheVariants.{Finished, Paused, Illegal}
use Rattle.control.specs.declared.Board.{Board}
use Rattle.decode.specs.Word.{decode_of}
use Rattle.access.specs.Access.{nothing_wanted}
use Rattle.refusal.specs.Refusal.{refusal_of}
use Rattle.machine.specs.State.{State}
use Rattle.machine.specs.Machine.{end_of, plan_at, turn_of}
use Rattle.machine.specs.Demands.{is_trap, changes_nothing}
use Rattle.access_check.specs.AccessCheck.{is_unit_stride, nothing_tested, access_check_of}

pub record Foretold (b : Board) : Type 0 where
  -- answer 0: the uncut turn finishes; "With no trap the element is 0"
  pub finishes : (word : ℕ) (s : State) → (access_check_of b word s).answer ≡ Finished
      → ((turn_of b word (2 ^ 32 - 1) s).answer ≡ Finished) × ((access_check_of b word s).element ≡ 0)
  -- 4 to 7: it traps at that element with that answer, and wants that right of that page
  pub traps : (word : ℕ) (s : State) → is_trap (access_check_of b word s).answer ≡ true
      → ((turn_of b word (2 ^ 32 - 1) s).answer ≡ (access_check_of b word s).answer)
      × (((turn_of b word (2 ^ 32 - 1) s).after.control.vstart ≡ (access_check_of b word s).element)
      × ((turn_of b word (2 ^ 32 - 1) s).place.wanted ≡ (access_check_of b word s).wanted))
  -- all other answers: page 256 and right 0 (A9)
  pub no-trap : (word : ℕ) (s : State) → is_trap (access_check_of b word s).answer ≡ false
      → (access_check_of b word s).wanted ≡ nothing_wanted
  -- never 1
  pub unpaused : (word : ℕ) (s : State) → (access_check_of b word s).answer ≡ Paused → ⊥
  -- "it equals what a turn with enough allowance answers", "Refusals: 32 to 36 and 2 as for a turn": of a unit-stride access
  pub same_answer : (word : ℕ) (s : State) → is_unit_stride (decode_of word) ≡ true
      → (access_check_of b word s).answer ≡ (turn_of b word (2 ^ 32 - 1) s).answer
  -- enough allowance: where no more elements remain than a turn may pass, it is the uncut one
  pub enough : (word n : ℕ) (s : State) → end_of (plan_at b word s) - s.control.vstart ≤ n
      → turn_of b word n s ≡ turn_of b word (2 ^ 32 - 1) s
  -- "each page once": an access has at most 128 bytes, so there are at most two
  pub two-pages : (word : ℕ) (s : State) → (access_check_of b word s).pages ≤ 2
  -- "any word but a plain, mask or whole-register unit-stride access is 2", on every state that is not refused
  pub other-words : (word : ℕ) (s : State)
      → refusal_of b (length s.registers) (length s.scalars) (length s.memory) s.rights s.control ≡ Ok tt
      → is_unit_stride (decode_of word) ≡ false → access_check_of b word s ≡ nothing_tested Illegal
  -- after a refusal or 2, element 0 and 0 pages
  pub nothing : (word : ℕ) (s : State) → changes_nothing (access_check_of b word s).answer ≡ true
      → access_check_of b word s ≡ nothing_tested (access_check_of b word s).answer
