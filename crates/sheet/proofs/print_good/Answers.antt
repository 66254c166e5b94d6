use Rattle.sheet.proofs.Printing.{good-wrote}
use borrow.Author.Rules.{rules}
use Rattle.sheet.proofs.print_good.Goals as goal

pub returns : goal.returns
returns c = (search good-wrote, search rules)
