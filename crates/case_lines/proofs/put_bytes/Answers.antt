use Rattle.case_lines.proofs.LineLaws.{byte-room, bytes-begun, byte-less, bytes-done}
use Rattle.case_lines.proofs.put_bytes.Goals as goal

pub loop-k-init : goal.loop-k-init
loop-k-init c = search bytes-begun

pub put-requires : goal.put-requires
put-requires c = search byte-room

pub loop-k-preserved : goal.loop-k-preserved
loop-k-preserved c = search byte-less

pub returns : goal.returns
returns c = search bytes-done
