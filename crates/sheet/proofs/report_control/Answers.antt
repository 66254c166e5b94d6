use Rattle.sheet.proofs.Printing.{four}
use borrow.Author.Rules.{rules}
use Rattle.sheet.proofs.report_control.Goals as goal

pub returns : goal.returns
returns c = (search four, search rules)
