use Rattle.capi.proofs.Shown.{shown}
use Rattle.capi.proofs.prashunde_turn.Goals as goal

pub returns : goal.returns
returns c = search shown
