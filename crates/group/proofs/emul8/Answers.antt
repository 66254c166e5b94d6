-- `emul8` meets its contract. Assumes nothing.
use native.Mathlib.Nat.{mul-le-mul}
use native.Mathlib.Omega.{arith}
use Rattle.group.specs.Group.{emul8_of}
use Rattle.group.proofs.GroupLaws.{emul8-fits}
use borrow.Author.Rules.{rules}
use Rattle.group.proofs.emul8.Goals as goal

pub overflow_mul-result : goal.overflow_mul-result
unfolding emul8_of
overflow_mul-result c = omega (arith, mul-le-mul c.requires.1.1 c.requires.1.0)

pub overflow_cast-result : goal.overflow_cast-result
unfolding emul8_of
overflow_cast-result c = search emul8-fits

pub returns : goal.returns
unfolding emul8_of
returns c = search rules
