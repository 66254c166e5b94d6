use Rattle.sheet.proofs.RunLaws.{running_none, running_more, running-stops, running-near, running-last, last-within}
use Rattle.sheet.proofs.Machine.run_words.Goals as goal

pub loop-k-init : goal.loop-k-init
loop-k-init c = search running_none

pub loop-k-preserved : goal.loop-k-preserved
loop-k-preserved c = search running_more

pub returns-in_default : goal.returns-in_default
returns-in_default c = (search running-stops, search running-near)

pub returns : goal.returns
returns c = (search running-last, search last-within)
