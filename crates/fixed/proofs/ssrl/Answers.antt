use Rattle.fixed.specs.Fixed.{vssrl}
use Rattle.fixed.proofs.ssrl.Goals as goal

pub returns : goal.returns
unfolding vssrl
returns c = cc
