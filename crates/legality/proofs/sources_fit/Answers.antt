use Rattle.legality.proofs.SourceLaws.{sources-are}
use Rattle.legality.proofs.sources_fit.Goals as goal

pub returns : goal.returns
returns c = search sources-are
