use Rattle.sheet.proofs.Printing.{value-wrote}
use borrow.Author.Rules.{rules}
use Rattle.sheet.proofs.print_value.Goals as goal

pub returns : goal.returns
returns c = (search value-wrote, search rules)
