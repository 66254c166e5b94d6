use Rattle.laws.proofs.Chain.{case}
use Rattle.plan.specs.Plan.{group_of}
use Rattle.plan.proofs.group_of.Goals as goal

pub returns-in-Constant : goal.returns-in-Constant
returns-in-Constant c = search (case group_of)

pub returns-in-Element : goal.returns-in-Element
returns-in-Element c = search (case group_of)

pub returns-in-Bit : goal.returns-in-Bit
returns-in-Bit c = search (case group_of)
