use Rattle.sheet.proofs.Printing.{report-wrote}
use borrow.Author.Rules.{rules}
use Rattle.sheet.proofs.report_turn.Goals as goal

pub returns : goal.returns
returns c = (search report-wrote, search rules)
