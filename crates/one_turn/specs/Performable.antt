-- For contracts of inner functions, not to be believed: what an instruction that takes one turn relies on.
use Rattle.std.specs.Prelude.{ℕ, ◌*◌, ◌≡◌, true, List}
use Rattle.control.specs.declared.Board.{Board}
use Rattle.control.specs.declared.Control.{Control}
use Rattle.control.specs.Board.{Valid}
use Rattle.control.specs.Control.{possible_of}
use Rattle.decode.specs.declared.Instruction.{Instruction}
use Rattle.decode.specs.Fields.{Fits}
use Rattle.plan.specs.declared.OneTurn.{OneTurn}
use Rattle.plan.specs.declared.Plan.TheVariants as P
use Rattle.plan.specs.Plan.{plan_of}
use Rattle.legality.specs.Legal.{one_turn_legal}

-- t is the plan of a decoded word at a register file of so many bytes, scalars and a control record that can be, and legal there
pub record Performable (b : Board) (size : ℕ) (x : List ℕ) (c : Control) (t : OneTurn) : Type 0 where
  pub valid : Valid b
  pub registers : size ≡ 32 * b.vlenb
  pub possible : possible_of b c ≡ true
  pub word : Instruction
  pub fits : Fits word
  pub plan : plan_of b x c word ≡ P.OneTurn t
  pub is-legal : one_turn_legal b c t ≡ true
