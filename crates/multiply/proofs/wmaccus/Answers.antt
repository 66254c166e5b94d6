use Rattle.width.proofs.Widths.{cut-at}
use Rattle.multiply.proofs.MultiplyAddLaws.{add-swapped-is}
use Rattle.multiply.proofs.wmaccus.Goals as goal

pub returns : goal.returns
returns c = search (add-swapped-is, cut-at)
