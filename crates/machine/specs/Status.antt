-- What a turn makes of the status field VS (section 4.2; document 02, A8), as statements on `turn_of`, on a board b.
use Rattle.std.specs.Prelude.{ℕ, ◌≡◌, false, length, Ok}
use Rattle.answer.specs.declared.Answer.TheVariants.{Illegal}
use Rattle.control.specs.declared.Board.{Board}
use Rattle.control.specs.Control.{off, dirty}
use Rattle.refusal.specs.Refusal.{refusal_of}
use Rattle.machine.specs.State.{State}
use Rattle.machine.specs.Machine.{turn_of}
use Rattle.machine.specs.Demands.{changes_nothing, untouched}

pub record Status (b : Board) : Type 0 where
  -- "Off makes every vector word illegal": 2 for every word, setting words too, on every state that is not refused
  pub off-illegal : (word n : ℕ) (s : State)
      → refusal_of b (length s.registers) (length s.scalars) (length s.memory) s.rights s.control ≡ Ok tt
      → s.control.vs ≡ off → turn_of b word n s ≡ untouched Illegal s
  -- "A turn that answers 0, 1 or 4 to 7 .. sets Dirty": also a pause at allowance 0, a store, and a trap with nothing passed
  pub sets-dirty : (word n : ℕ) (s : State) → changes_nothing (turn_of b word n s).answer ≡ false
      → (turn_of b word n s).after.control.vs ≡ dirty
