use Rattle.sheet.proofs.Printing.{printed-none, printed-more, printed-all}
use borrow.Author.Rules.{rules}
use Rattle.sheet.proofs.print_registers.Goals as goal

pub loop-n-init : goal.loop-n-init
loop-n-init c = search printed-none

pub loop-n-preserved : goal.loop-n-preserved
loop-n-preserved c = search printed-more

pub returns : goal.returns
returns c = (search printed-all, search rules)
