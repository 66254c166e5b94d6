use native.Mathlib.Numerals.{add-one}
use Rattle.group.proofs.GroupLaws.{span_fits}
use Rattle.group.proofs.span.Goals as goal

pub overflow_mul-result : goal.overflow_mul-result
overflow_mul-result c = search span_fits

pub returns : goal.returns
returns c = rw (c.registers.ensures, add-one)
