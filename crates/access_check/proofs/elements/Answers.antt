use Rattle.access_check.proofs.elements.Goals as goal

pub tested-requires : goal.tested-requires
tested-requires c = rw c.saturating_sub.ensures (c.requires.0 _ c.in-Transfer.is, c.requires.1)
