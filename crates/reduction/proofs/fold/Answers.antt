use Rattle.reduction.proofs.FoldLaws.{folding-more, folding-all}
use Rattle.reduction.proofs.fold.Goals as goal

pub loop-i-preserved : goal.loop-i-preserved
loop-i-preserved c = search folding-more

pub returns : goal.returns
returns c = search folding-all
