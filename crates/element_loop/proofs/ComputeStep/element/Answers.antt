use Rattle.execute.specs.Step.{ActionFits}
use Rattle.element_loop.proofs.ComputeStep.element.Goals as goal

pub compute_element-requires : goal.compute_element-requires
unfolding ActionFits
compute_element-requires c = (c.requires.ready, (c.requires.fits, c.requires.action))
