use Rattle.laws.proofs.Chain.{same-and, same_or}
use Rattle.legality.proofs.overlap_fits.Goals as goal

pub returns : goal.returns
returns c = search (same_or, same-and)
