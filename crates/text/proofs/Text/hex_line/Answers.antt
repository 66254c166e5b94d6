use Rattle.text.proofs.TextLaws.{line_wrote, line-room, hex-short, line-ends}
use Rattle.text.proofs.Text.hex_line.Goals as goal

pub put_byte-requires : goal.put_byte-requires
put_byte-requires c = search (line-room, hex-short)

pub returns : goal.returns
returns c = (search line_wrote, search line-ends)
