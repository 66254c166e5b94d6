use Rattle.sheet.proofs.Printing.{zero-register, register-wrote, value_room, register-near}
use borrow.Author.Rules.{rules}
use Rattle.sheet.proofs.print_register.Goals as goal

pub returns-then-high-low : goal.returns-then-high-low
returns-then-high-low c = (search zero-register, search rules)

pub print_value-requires : goal.print_value-requires
print_value-requires c = search value_room

pub returns : goal.returns
returns c = (search register-wrote, search register-near)
