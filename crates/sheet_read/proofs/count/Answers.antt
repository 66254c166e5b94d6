use Rattle.sheet_read.proofs.SheetLaws.{counted_none, counted-more, counted_stop, counted-full}
use borrow.Author.Rules.{rules}
use Rattle.sheet_read.proofs.count.Goals as goal

pub loop-k-init : goal.loop-k-init
loop-k-init c = search counted_none

pub returns-then-not-hex_line : goal.returns-then-not-hex_line
returns-then-not-hex_line c = (search counted_stop, search rules)

pub loop-k-preserved : goal.loop-k-preserved
loop-k-preserved c = search counted-more

pub returns : goal.returns
returns c = (search counted-full, search rules)
