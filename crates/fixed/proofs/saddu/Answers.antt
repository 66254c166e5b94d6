use mathlib.Core.Path.{◌∙◌}
use native.Mathlib.Omega.{arith}
use Rattle.fixed.specs.Fixed.{vsaddu}
use Rattle.fixed.proofs.ClipLaws.{unsigned-over, unsigned-within}
use Rattle.fixed.proofs.saddu.Goals as goal

pub returns-then-m-a : goal.returns-then-m-a
unfolding vsaddu
returns-then-m-a c = c.saturated.ensures ∙ unsigned-over _ _ _ (search) (omega arith)

pub returns : goal.returns
unfolding vsaddu
returns c = c.exact.ensures ∙ unsigned-within _ _ (omega arith)
