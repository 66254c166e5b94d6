use native.Mathlib.Omega.{arith}
use Rattle.layout.proofs.BytesLaws.{write-more, write-all}
use mathlib.Core.Path.{◌∙◌}
use Rattle.layout.proofs.write.Goals as goal

pub loop-k-preserved : goal.loop-k-preserved
loop-k-preserved g c = write-more _ _ _ _ _ (omega arith) ∙ c.loop-k.invariant

pub returns : goal.returns
returns g c = write-all _ _ _ _ _ _ (omega arith) c.loop-k.invariant
