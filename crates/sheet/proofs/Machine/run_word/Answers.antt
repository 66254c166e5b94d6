use Rattle.sheet.proofs.RunLaws.{turning-none, turning-more, turning-done, turning-answer, turning-near, turning-last, last-answer}
use Rattle.sheet.proofs.RunLaws.{last-near}
use Rattle.sheet.proofs.Machine.run_word.Goals as goal

pub loop-turn-init : goal.loop-turn-init
loop-turn-init c = search turning-none

pub loop-turn-preserved : goal.loop-turn-preserved
loop-turn-preserved c = search turning-more

pub returns-in_default : goal.returns-in_default
returns-in_default c = (search turning-done, (search turning-answer, search turning-near))

pub returns : goal.returns
returns c = (search turning-last, (search last-answer, search last-near))
