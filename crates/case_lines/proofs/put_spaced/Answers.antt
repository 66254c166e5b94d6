use Rattle.case_lines.proofs.LineLaws.{number-less, numbers-done, space-room, number-room}
use Rattle.case_lines.proofs.put_spaced.Goals as goal

pub put-requires : goal.put-requires
put-requires c = search space-room

pub put_decimal-requires : goal.put_decimal-requires
put_decimal-requires c = search number-room

pub loop-number-preserved : goal.loop-number-preserved
loop-number-preserved c = search number-less

pub returns : goal.returns
returns c = search numbers-done
