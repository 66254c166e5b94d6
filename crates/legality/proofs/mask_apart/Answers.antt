use Rattle.legality.proofs.LegalLaws.{apart-is}
use Rattle.legality.proofs.mask_apart.Goals as goal

pub returns : goal.returns
returns c = search apart-is
