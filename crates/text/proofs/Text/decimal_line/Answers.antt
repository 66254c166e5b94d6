use Rattle.text.proofs.TextLaws.{line_wrote, line-room, decimal-length, line-within}
use Rattle.text.proofs.Text.decimal_line.Goals as goal

pub put_byte-requires : goal.put_byte-requires
put_byte-requires c = search (line-room, decimal-length)

pub returns : goal.returns
returns c = (search line_wrote, search (line-within, decimal-length))
