use mathlib.Core.Path.{◌∙◌}
use Rattle.fixed.specs.Fixed.{vssubu}
use Rattle.fixed.proofs.ClipLaws.{unsigned-under, unsigned-difference}
use Rattle.fixed.proofs.ssubu.Goals as goal

pub returns-then-a-b : goal.returns-then-a-b
unfolding vssubu
returns-then-a-b c = c.saturated.ensures ∙ search unsigned-under

pub returns : goal.returns
unfolding vssubu
returns c = c.exact.ensures ∙ search unsigned-difference
