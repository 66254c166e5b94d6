use Rattle.text.proofs.TextLaws.{byte-less, all_done}
use Rattle.text.proofs.Text.put.Goals as goal

pub loop-byte-preserved : goal.loop-byte-preserved
loop-byte-preserved c = search byte-less

pub returns : goal.returns
returns c = search all_done
