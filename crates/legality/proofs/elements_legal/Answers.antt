use Rattle.legality.proofs.LegalLaws.{elements-legal-is}
use Rattle.legality.proofs.elements_legal.Goals as goal

pub returns : goal.returns
returns c = search elements-legal-is
