use Rattle.reduction.proofs.FoldLaws.{written, kept}
use Rattle.reduction.proofs.reduce.Goals as goal

pub returns-then-vl-ne0 : goal.returns-then-vl-ne0
returns-then-vl-ne0 c = written _ _ _ _ _ _ c.if-vl-ne0.true c.fold-z.ensures c.write_element.ensures

pub returns-else-vl-ne0 : goal.returns-else-vl-ne0
returns-else-vl-ne0 c = search kept
