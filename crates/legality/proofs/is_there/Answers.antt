use Rattle.legality.proofs.LegalLaws.{there-is}
use Rattle.legality.proofs.is_there.Goals as goal

pub returns-in-Compute : goal.returns-in-Compute
returns-in-Compute c = search there-is
