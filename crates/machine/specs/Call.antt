-- What a call of a turn is given and leaves, in the definition's terms: `turn::turn` promises `left .. ≡ turn_of board .. (given ..)`.
use Rattle.std.specs.Prelude.{ℕ, List}
use Rattle.control.specs.declared.Control.{Control}
use Rattle.machine.specs.declared.Turned.{Turned}
use Rattle.machine.specs.State.{State, Outcome}

-- the five lent parts as a state
abbrev pub given : List ℕ → List ℕ → List ℕ → List ℕ → Control → State
given registers scalars memory rights c =
    record { registers = registers; scalars = scalars; memory = memory; rights = rights; control = c }

-- what the call returns, with what it leaves in them, as an outcome
abbrev pub left : Turned → List ℕ → List ℕ → List ℕ → List ℕ → Outcome
left r registers scalars memory rights =
    record { answer = r.answer; passed = r.passed; place = r.place; after = given registers scalars memory rights r.control }
