use Rattle.fixed.specs.Fixed.{vnclipu}
use Rattle.fixed.proofs.nclipu.Goals as goal

pub returns : goal.returns
unfolding vnclipu
returns c = cc
