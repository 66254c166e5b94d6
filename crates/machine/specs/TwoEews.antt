-- The ratified sentence on sources (document 02, A5), as a statement on every turn.
use Rattle.std.specs.Prelude.{ℕ, ◌≡◌, length, Ok}
use Rattle.answer.specs.declared.Answer.TheVariants.{Illegal}
use Rattle.control.specs.declared.Board.{Board}
use Rattle.refusal.specs.Refusal.{refusal_of}
use Rattle.plan.specs.Sources.{sources_of}
use Rattle.legality.specs.OneEew.{ReadAtOneEew}
use Rattle.machine.specs.State.{State}
use Rattle.machine.specs.Machine.{plan_at, turn_of}
use Rattle.machine.specs.Demands.{untouched}

-- "a word that reads one register at two different EEWs" is answered 2 at every allowance on every state that is not refused, and changes
-- nothing
abbrev pub TwoEews : Board → Type 0
TwoEews b = (word allowance : ℕ) (s : State)
    → refusal_of b (length s.registers) (length s.scalars) (length s.memory) s.rights s.control ≡ Ok tt
    → (ReadAtOneEew (sources_of (plan_at b word s)) → ⊥)
    → turn_of b word allowance s ≡ untouched Illegal s
