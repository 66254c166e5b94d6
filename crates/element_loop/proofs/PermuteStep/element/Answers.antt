use Rattle.execute.specs.Step.{ActionFits}
use Rattle.element_loop.proofs.PermuteStep.element.Goals as goal

pub element-requires : goal.element-requires
unfolding ActionFits
element-requires c = (c.requires.ready, (rw c.requires.registers-length c.requires.fits, c.requires.action))
