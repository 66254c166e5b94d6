-- The state that a turn is given and leaves: the five parts of document 01, 'The machine on the screen'.
use Rattle.std.specs.Prelude.{ℕ, List}
use Rattle.answer.specs.declared.Answer.{Answer}
use Rattle.control.specs.declared.Control.{Control}
use Rattle.control.specs.Control.{with_vstart, with_vs}
use Rattle.access.specs.declared.FaultPlace.{FaultPlace}

pub record State : Type 0 where
  pub registers : List ℕ
  pub scalars : List ℕ
  pub memory : List ℕ
  pub rights : List ℕ
  pub control : Control

-- what a turn gives: the answer, the number of elements passed, where a fault lies, and the state after
pub record Outcome : Type 0 where
  pub answer : Answer
  pub passed : ℕ
  pub place : FaultPlace
  pub after : State

-- the same state with other rights
abbrev pub with_rights : List ℕ → State → State
with_rights r s = record { registers = s.registers; scalars = s.scalars; memory = s.memory; rights = r; control = s.control }

-- all but the rights and vstart, which the theory of turns keeps apart; the record's vstart is 0 here
pub record Core : Type 0 where
  pub registers : List ℕ
  pub scalars : List ℕ
  pub memory : List ℕ
  pub control : Control

abbrev pub core_of : State → Core
core_of s = record { registers = s.registers; scalars = s.scalars; memory = s.memory; control = with_vstart s.control 0 }

-- with rights, a vstart and a VS
abbrev pub state_of : List ℕ → Core → ℕ → ℕ → State
state_of rights s i vs = record {
  registers = s.registers;
  scalars = s.scalars;
  memory = s.memory;
  rights = rights;
  control = with_vs (with_vstart s.control i) vs;
}

-- ---- with one part changed

abbrev pub with_registers : List ℕ → Core → Core
with_registers file s = record { registers = file; scalars = s.scalars; memory = s.memory; control = s.control }

abbrev pub with_scalars : List ℕ → Core → Core
with_scalars x s = record { registers = s.registers; scalars = x; memory = s.memory; control = s.control }

abbrev pub with_memory : List ℕ → Core → Core
with_memory m s = record { registers = s.registers; scalars = s.scalars; memory = m; control = s.control }

abbrev pub with_control : Control → Core → Core
with_control c s = record { registers = s.registers; scalars = s.scalars; memory = s.memory; control = c }
