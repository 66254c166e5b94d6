-- For contracts of inner functions, not to be believed: what the loop over elements relies on.
use Rattle.std.specs.Prelude.{◌≡◌}
use Rattle.std.proofs.Math.Option.{none}
use Rattle.control.specs.declared.Board.{Board}
use Rattle.control.specs.Board.{Valid}
use Rattle.decode.specs.declared.Instruction.{Instruction}
use Rattle.decode.specs.Fields.{Fits}
use Rattle.plan.specs.declared.Elementwise.{Elementwise}
use Rattle.plan.specs.declared.Plan.TheVariants as P
use Rattle.plan.specs.Plan.{plan_of}
use Rattle.machine.specs.State.{State, core_of}
use Rattle.machine.specs.Machine.{rejection_at}

-- e is the plan of a decoded word at a state, and not rejected there
pub record Runnable (b : Board) (s : State) (e : Elementwise) : Type 0 where
  pub valid : Valid b
  pub word : Instruction
  pub fits : Fits word
  pub plan : plan_of b s.scalars s.control word ≡ P.Elements e
  pub is-legal : rejection_at b (P.Elements e) s.rights (core_of s) s.control.vstart ≡ none
