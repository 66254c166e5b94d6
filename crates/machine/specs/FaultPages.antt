-- What a turn says of the page and the right that were wanted (document 02, A9), as statements on `turn_of`, on a board b.
use Rattle.std.specs.Prelude.{ℕ, ◌≡◌, true, false, List, length}
use Rattle.control.specs.declared.Board.{Board}
use Rattle.access.specs.declared.Fault.{Fault}
use Rattle.access.specs.Access.{nowhere}
use Rattle.access.specs.Reason.{Reason}
use Rattle.plan.specs.declared.Action.{Action}
use Rattle.plan.specs.declared.Action.TheVariants as A
use Rattle.plan.specs.declared.Plan.{Plan}
use Rattle.plan.specs.declared.Plan.TheVariants as P
use Rattle.machine.specs.State.{State, Outcome}
use Rattle.machine.specs.Machine.{plan_at, turn_of}
use Rattle.machine.specs.Demands.{is_trap}

-- an access alone can fault, for a reason of an element of its size
abbrev pub ActionReason : List ℕ → ℕ → Action → Fault → Type 0
ActionReason rights memory (A.Compute k) f = ⊥
ActionReason rights memory (A.Permute p) f = ⊥
ActionReason rights memory (A.Transfer t) f = Reason rights memory t.store t.bytes f

abbrev pub PlanReason : List ℕ → ℕ → Plan → Fault → Type 0
PlanReason rights memory P.Illegal f = ⊥
PlanReason rights memory (P.OneTurn t) f = ⊥
PlanReason rights memory (P.Elements e) f = ActionReason rights memory e.action f

-- the answer and the place of an outcome
abbrev pub fault_in : Outcome → Fault
fault_in o = record { answer = o.answer; place = o.place }

pub record FaultPages (b : Board) : Type 0 where
  -- "Answers without a memory trap carry 256 and 0"; their address is 0
  pub no-trap : (word n : ℕ) (s : State) → is_trap (turn_of b word n s).answer ≡ false → (turn_of b word n s).place ≡ nowhere
  -- a trap, by the rights and the memory that the turn was given
  pub trap : (word n : ℕ) (s : State) → is_trap (turn_of b word n s).answer ≡ true
      → PlanReason s.rights (length s.memory) (plan_at b word s) (fault_in (turn_of b word n s))
