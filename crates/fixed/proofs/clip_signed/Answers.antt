use mathlib.Core.Path.{◌∙◌}
use Rattle.fixed.proofs.ClipLaws.{signed-under, signed-over, signed-within}
use Rattle.fixed.proofs.clip_signed.Goals as goal

pub returns-then-z-top : goal.returns-then-z-top
returns-then-z-top c = c.saturated.ensures ∙ search signed-under

pub returns-then-top-z : goal.returns-then-top-z
returns-then-top-z c = c.saturated-then-top-z.ensures ∙ search signed-over

pub returns : goal.returns
returns c = c.exact.ensures ∙ search signed-within
