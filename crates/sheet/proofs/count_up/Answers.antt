use Rattle.sheet.proofs.Printing.{filled_none, filled_more, filled-all}
use Rattle.sheet.proofs.count_up.Goals as goal

pub loop-a-init : goal.loop-a-init
loop-a-init c = search filled_none

pub loop-a-preserved : goal.loop-a-preserved
loop-a-preserved c = search filled_more

pub returns : goal.returns
returns c = search filled-all
