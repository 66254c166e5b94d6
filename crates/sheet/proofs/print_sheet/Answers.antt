use Rattle.sheet.proofs.Printing.{printed-good, printed-bad}
use borrow.Author.Rules.{rules}
use Rattle.sheet.proofs.print_sheet.Goals as goal

pub returns-in-Ok : goal.returns-in-Ok
returns-in-Ok c = (search (printed-good, c.in-Ok.ensures), search rules)

pub returns-in-Err : goal.returns-in-Err
returns-in-Err c = (search (printed-bad, c.in-Err.ensures), search rules)
