use Rattle.case_lines.proofs.LineLaws.{byte-fits, next-fits}
use Rattle.case_lines.proofs.set_rights.Goals as goal

pub overflow_cast-right : goal.overflow_cast-right
overflow_cast-right c = search byte-fits

pub overflow_add-last : goal.overflow_add-last
overflow_add-last c = search next-fits
