use Rattle.sheet.proofs.Printing.{needed-length, buffer-holds, buffer-short}
use borrow.Author.Rules.{rules}
use Rattle.sheet.proofs.run.Goals as goal

pub returns-then-needed-out : goal.returns-then-needed-out
returns-then-needed-out c = (search needed-length, (search buffer-holds, search rules))

pub returns-else-needed-out : goal.returns-else-needed-out
returns-else-needed-out c = (search needed-length, (search buffer-short, search rules))
