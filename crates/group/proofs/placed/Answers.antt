-- `placed` meets its contract. Assumes nothing.
use Rattle.group.proofs.GroupLaws.{product-fits, placed-is}
use Rattle.group.proofs.placed.Goals as goal

pub overflow_mul-result : goal.overflow_mul-result
overflow_mul-result c = search product-fits

pub returns : goal.returns
returns c = search placed-is
