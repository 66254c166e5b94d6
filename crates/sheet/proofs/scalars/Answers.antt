use Rattle.sheet.proofs.Printing.{scalars-set}
use Rattle.sheet.proofs.scalars.Goals as goal

pub returns : goal.returns
returns c = search scalars-set
