use Rattle.group.proofs.GroupLaws.{end_fits}
use Rattle.group.proofs.end.Goals as goal

pub overflow_add-result : goal.overflow_add-result
overflow_add-result c = search end_fits
