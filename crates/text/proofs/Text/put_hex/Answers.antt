use Rattle.text.proofs.TextLaws.{digit-less, digits-done, hex-room, digits-end}
use Rattle.text.proofs.Text.put_hex.Goals as goal

pub put_byte-requires : goal.put_byte-requires
put_byte-requires c = search hex-room

pub loop-k-preserved : goal.loop-k-preserved
loop-k-preserved c = search digit-less

pub returns : goal.returns
returns c = (search digits-done, search digits-end)
