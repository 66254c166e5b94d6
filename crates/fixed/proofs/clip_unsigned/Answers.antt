use mathlib.Core.Path.{◌∙◌}
use native.Mathlib.Omega.{arith}
use Rattle.fixed.proofs.ClipLaws.{unsigned-over, unsigned-within}
use Rattle.fixed.proofs.clip_unsigned.Goals as goal

pub returns-then-m-v : goal.returns-then-m-v
returns-then-m-v c = c.saturated.ensures ∙ search unsigned-over

pub returns : goal.returns
returns c = c.exact.ensures ∙ unsigned-within _ _ (omega arith)
