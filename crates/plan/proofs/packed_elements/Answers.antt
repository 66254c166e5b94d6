use Rattle.plan.specs.Plan.{packed_elements}
use Rattle.plan.proofs.OperandLaws.{between}
use Rattle.plan.proofs.packed_elements.Goals as goal

pub returns-in-Viota : goal.returns-in-Viota
returns-in-Viota c = search (between packed_elements)

pub returns-in-Vcompress : goal.returns-in-Vcompress
returns-in-Vcompress c = search (between packed_elements)
