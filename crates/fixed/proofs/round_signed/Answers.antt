use Rattle.fixed.proofs.RoundLaws.{signed-none, increment-fits, signed-fits, signed_is}
use Rattle.fixed.proofs.round_signed.Goals as goal

pub returns-then-d-eq0 : goal.returns-then-d-eq0
returns-then-d-eq0 c = search signed-none

pub overflow_cast-result : goal.overflow_cast-result
overflow_cast-result c = search increment-fits

pub overflow_add-result : goal.overflow_add-result
overflow_add-result c = search signed-fits

pub returns : goal.returns
returns c = search signed_is
