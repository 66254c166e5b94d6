use native.Mathlib.Omega.{arith}
use Rattle.layout.proofs.BytesLaws.{byte-wide}
use Rattle.layout.proofs.BitLaws.{read-bit}
use Rattle.layout.proofs.read_bit.Goals as goal

pub overflow_cast-x : goal.overflow_cast-x
overflow_cast-x c = search byte-wide

pub returns : goal.returns
returns c = search (read-bit, arith)
