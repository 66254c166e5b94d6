use Rattle.text.proofs.TextLaws.{both}
use borrow.Author.Rules.{rules}
use Rattle.sheet.proofs.Machine.print_final.Goals as goal

pub returns : goal.returns
returns c = (search both, search rules)
