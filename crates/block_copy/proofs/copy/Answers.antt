use Rattle.block_copy.proofs.CopyLaws.{part-copied}
use Rattle.block_copy.proofs.copy.Goals as goal

pub returns : goal.returns
returns c = search part-copied
