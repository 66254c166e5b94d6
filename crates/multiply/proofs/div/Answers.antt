use Rattle.multiply.proofs.DivideLaws.{divisions}
use Rattle.multiply.proofs.div.Goals as goal

pub returns : goal.returns
returns c = search divisions
