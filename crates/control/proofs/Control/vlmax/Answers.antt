use native.Mathlib.Omega.{arith}
use Rattle.control.specs.Vtype.{vlmax_of}
use Rattle.control.proofs.Laws.{lmul8-le, sew-ge, product-fits}
use Rattle.control.proofs.Control.vlmax.Goals as goal

pub overflow_mul-result : goal.overflow_mul-result
unfolding vlmax_of
overflow_mul-result c = product-fits _ _ (omega (arith, lmul8-le c.args.vtype)) (omega arith)

pub nonzero_div-result : goal.nonzero_div-result
unfolding vlmax_of
nonzero_div-result c = omega (arith, sew-ge c.args.vtype)

pub returns : goal.returns
unfolding vlmax_of
returns c = rw (c.lmul8.ensures, c.sew.ensures)
