use Rattle.legality.proofs.LegalLaws.{four-are}
use Rattle.legality.proofs.packing_placed.Goals as goal

pub returns : goal.returns
returns c = search four-are
