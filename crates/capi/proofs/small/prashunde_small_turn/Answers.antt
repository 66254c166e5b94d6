use Rattle.capi.proofs.Shown.{shown}
use Rattle.capi.proofs.small.prashunde_small_turn.Goals as goal

pub returns : goal.returns
returns c = search shown
