use Rattle.capi.proofs.Shown.{told}
use borrow.Author.Rules.{rules}
use Rattle.capi.proofs.prashunde_access_check.Goals as goal

pub returns : goal.returns
returns c = record { tells = search told; registers_value = (search rules, (search rules, (search rules, (search rules, search rules)))) }
