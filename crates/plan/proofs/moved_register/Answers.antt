use Rattle.laws.proofs.Chain.{arm}
use Rattle.plan.specs.Sources.{moved_register}
use Rattle.plan.proofs.moved_register.Goals as goal

pub returns-in-VmvXS : goal.returns-in-VmvXS
returns-in-VmvXS c = search (arm moved_register)

pub returns-in-VmvSX : goal.returns-in-VmvSX
returns-in-VmvSX c = search (arm moved_register)
