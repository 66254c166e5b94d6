use Rattle.block_copy.proofs.CopyLaws.{all-granted}
use Rattle.block_copy.proofs.granted.Goals as goal

pub returns-in-Finished : goal.returns-in-Finished
returns-in-Finished c = search all-granted
