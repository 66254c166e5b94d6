-- The demands hold of the machine, on every board that it is for; and with no premise left, on the two boards that there are.
use Rattle.control.specs.declared.Board.{Board}
use Rattle.control.specs.Board.{Valid, base, small}
use Rattle.control.proofs.Laws.{base-valid, small-valid}
use Rattle.machine.specs.Demands.{Demands}
use Rattle.machine.proofs.Demands.{demand-1, demand-3, counted}

pub demands-on : (b : Board) → Valid b → Demands b
demands-on b v = record { total = demand-1 b; resumable = demand-3 b v; counts = counted b }

-- the board of document 01 (`Hart::BASE`)
pub demands : Demands base
demands = demands-on base base-valid

-- the smaller board (`Hart::SMALL`)
pub small-demands : Demands small
small-demands = demands-on small small-valid
