use Rattle.layout.proofs.WidthLaws.{last-size}
use Rattle.layout.proofs.BytesLaws.{write-sized}
use Rattle.layout.proofs.write_bytes.Goals as goal

pub returns-in-1 : goal.returns-in-1
returns-in-1 c = search write-sized

pub returns-in-2 : goal.returns-in-2
returns-in-2 c = search write-sized

pub returns-in-4 : goal.returns-in-4
returns-in-4 c = search write-sized

pub returns-in_default : goal.returns-in_default
returns-in_default c = search (write-sized, last-size)
