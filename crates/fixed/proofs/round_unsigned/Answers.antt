use Rattle.fixed.proofs.RoundLaws.{unsigned-none, unsigned-fits, unsigned_is}
use Rattle.fixed.proofs.round_unsigned.Goals as goal

pub returns-then-d-eq0 : goal.returns-then-d-eq0
returns-then-d-eq0 c = search unsigned-none

pub overflow_add-result : goal.overflow_add-result
overflow_add-result c = search unsigned-fits

pub returns : goal.returns
returns c = search unsigned_is
