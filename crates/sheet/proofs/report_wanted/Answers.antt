use Rattle.sheet.proofs.Printing.{no_lines, wanted-wrote}
use borrow.Author.Rules.{rules}
use Rattle.sheet.proofs.report_wanted.Goals as goal

pub returns-in-LoadMisaligned : goal.returns-in-LoadMisaligned
returns-in-LoadMisaligned c = (search wanted-wrote, search rules)

pub returns-in_default : goal.returns-in_default
returns-in_default c = (search no_lines, search rules)
