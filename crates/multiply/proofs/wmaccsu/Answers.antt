use Rattle.width.proofs.Widths.{cut-at}
use Rattle.multiply.proofs.MultiplyAddLaws.{add-signed-is}
use Rattle.multiply.proofs.wmaccsu.Goals as goal

pub returns : goal.returns
returns c = search (add-signed-is, cut-at)
