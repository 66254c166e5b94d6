use Rattle.execute.specs.Step.{ActionFits}
use Rattle.element_loop.proofs.TransferStep.element.Goals as goal

pub transfer_element-requires : goal.transfer_element-requires
unfolding ActionFits
transfer_element-requires c = (
  c.requires.ready,
  (c.requires.memory-length, (c.requires.fits, c.requires.action)),
)
