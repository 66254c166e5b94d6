-- For contracts of inner functions, not to be believed: one element of any action, what it relies on and what it leaves.
use Rattle.std.specs.Prelude.{◌≡◌, ℕ, ◌*◌, ◌≤◌, Bool, List, length, Result, Ok, Err, ⊤}
use Rattle.control.specs.declared.Board.{Board}
use Rattle.control.specs.declared.Control.{Control}
use Rattle.access.specs.declared.Fault.{Fault}
use Rattle.plan.specs.declared.Action.{Action}
use Rattle.plan.specs.declared.Elementwise.{Elementwise}
use Rattle.machine.specs.Effect.{saturating, effect_of}
use Rattle.execute.specs.Step.{Ready, ActionFits, core_at, Did}

-- element i of a plan whose action is a can be carried out in these registers and this memory
pub record Steppable (b : Board) (registers memory : List ℕ) (e : Elementwise) (i : ℕ) (a : Action) : Type 0 where
  pub action : e.action ≡ a
  pub ready : Ready (length registers) b.vlenb e i
  pub fits : ActionFits b.vlenb registers e i a
  pub registers-length : length registers ≡ 32 * b.vlenb
  pub memory-length : length memory ≤ 65536

-- what comes of it, whether it saturates or its fault, as the access test says it, and the control record that it leaves
abbrev pub tested_as : Result Bool Fault → Result ⊤ Fault
tested_as (Ok saturates) = Ok tt
tested_as (Err f) = Err f

abbrev pub control_after : Result Bool Fault → Control → Control
control_after (Ok saturates) c = saturating saturates c
control_after (Err f) c = c

-- it was, with r for what came of it
abbrev pub Stepped : Board → List ℕ → Elementwise → ℕ → List ℕ → List ℕ → Result Bool Fault → List ℕ → List ℕ → Type 0
Stepped b rights e i registers memory r registers' memory' =
    (x : List ℕ) (c : Control) → Did b.vlenb (effect_of b rights (core_at registers memory x c) e i) (core_at registers memory x c)
    (tested_as r) (core_at registers' memory' x (control_after r c))
