use native.Mathlib.Omega.{arith}
use mathlib.Core.Bool.{and_assoc}
use Rattle.control.specs.Vtype.{supported_of}
use Rattle.control.proofs.Laws.{lmul8-le, sew-le, product-fits}
use Rattle.control.proofs.Control.supported.Goals as goal

pub overflow_mul-result : goal.overflow_mul-result
unfolding supported_of
overflow_mul-result c = omega (arith, sew-le c.args.vtype)

pub overflow_mul-result-2 : goal.overflow_mul-result-2
unfolding supported_of
overflow_mul-result-2 c = product-fits _ _ (omega arith) (omega (arith, lmul8-le c.args.vtype))

pub returns : goal.returns
unfolding supported_of
returns c = simp (c.sew-sew.ensures, c.lmul8-lmul8.ensures, and_assoc)
