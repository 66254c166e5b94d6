use Rattle.case_lines.proofs.LineLaws.{fields-room, control-wrote, control-within}
use Rattle.case_lines.proofs.put_control.Goals as goal

pub put_spaced-requires : goal.put_spaced-requires
put_spaced-requires c = search fields-room

pub returns : goal.returns
returns c = (search control-wrote, search control-within)
