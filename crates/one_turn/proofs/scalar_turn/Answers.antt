use Rattle.machine.specs.OneTurn.{scalar_move_result}
use Rattle.one_turn.proofs.ResultLaws.{registers-left}
use Rattle.one_turn.proofs.MoveLaws.{move-by, scalars-left}
use Rattle.one_turn.proofs.scalar_turn.Goals as goal

pub returns-in-VmvXS : goal.returns-in-VmvXS
unfolding scalar_move_result
returns-in-VmvXS c = search (move-by, scalars-left)

pub returns-in-VmvSX : goal.returns-in-VmvSX
unfolding scalar_move_result
returns-in-VmvSX c = search (move-by, registers-left)
