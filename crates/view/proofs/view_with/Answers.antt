use native.Mathlib.Omega.{arith}
use Rattle.view.proofs.ViewLaws.{ends-within}
use Rattle.view.proofs.view_with.Goals as goal

pub overflow_add-result : goal.overflow_add-result
overflow_add-result c = omega (arith, ends-within _ _ _ _ _ c.in-Ok.ensures)

pub slice_bounds-result-end : goal.slice_bounds-result-end
slice_bounds-result-end c = omega (arith, ends-within _ _ _ _ _ c.in-Ok.ensures)
