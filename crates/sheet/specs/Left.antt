-- For contracts of inner functions, not to be believed: what the calls of a run leave, a progress.
use Rattle.std.specs.Prelude.{◌≡◌}
use Rattle.text.specs.declared.Text.{Text}
use Rattle.text.specs.Text.{Adds}
use Rattle.machine.specs.State.{State}
use Rattle.machine.specs.Call.{given}
use Rattle.sheet.specs.declared.Machine.{Machine}
use Rattle.sheet.specs.Run.{Progress}

-- the state that a machine holds
abbrev pub held : Machine → State
held m = given m.registers m.scalars m.memory m.rights m.control

-- its text has been added, and the machine is in its state
pub record Leaves (p : Progress) (before after : Text) (m : Machine) : Type 0 where
  pub wrote : Adds before p.text after
  pub state : held m ≡ p.state
