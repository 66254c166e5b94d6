use Rattle.hexadecimal.specs.Hexadecimal.{number_at}
use Rattle.hexadecimal.proofs.Laws.{no_number, number_more, reached, more_lt, all-lt, more-fits, times-fits}
use borrow.Author.Rules.{rules}
use Rattle.hexadecimal.proofs.number.Goals as goal

pub loop-i-init : goal.loop-i-init
loop-i-init c = (search no_number, search rules)

pub overflow_mul-x : goal.overflow_mul-x
overflow_mul-x c = search times-fits

pub overflow_add-x : goal.overflow_add-x
overflow_add-x c = search more-fits

pub loop-i-preserved : goal.loop-i-preserved
loop-i-preserved c = (search number_more, search more_lt)

pub returns : goal.returns
returns c = (search (reached number_at), search all-lt)
