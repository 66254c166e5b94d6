use Rattle.sheet.proofs.Printing.{bad-wrote}
use borrow.Author.Rules.{rules}
use Rattle.sheet.proofs.print_bad.Goals as goal

pub returns : goal.returns
returns c = (search bad-wrote, search rules)
