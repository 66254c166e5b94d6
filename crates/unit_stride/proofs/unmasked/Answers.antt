use Rattle.unit_stride.proofs.UnmaskedLaws.{nothing-remains, at-misaligned, begins, some-remain}
use borrow.Author.Rules.{rules}
use Rattle.unit_stride.proofs.unmasked.Goals as goal

pub returns-then-remaining-eq0 : goal.returns-then-remaining-eq0
returns-then-remaining-eq0 c = rw c.finished.ensures (search nothing-remains)

pub returns-then-not-aligned : goal.returns-then-not-aligned
returns-then-not-aligned c = search at-misaligned

pub by_pages-requires : goal.by_pages-requires
by_pages-requires c = (search rules, (search begins, search some-remain))
