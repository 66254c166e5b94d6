use mathlib.Core.Logic.{⊎_elim}
use Rattle.fixed.proofs.RoundLaws.{none, rnu, rne-lower, rne-odd, rne-even, rdn, rod}
use Rattle.fixed.proofs.increment_of.Goals as goal

pub returns-then-d-eq0 : goal.returns-then-d-eq0
returns-then-d-eq0 c = search none

pub returns-in-Rnu : goal.returns-in-Rnu
returns-in-Rnu c = search rnu

pub returns-then-last-eq1 : goal.returns-then-last-eq1
returns-then-last-eq1 c = ⊎_elim (λ w. search rne-lower) (λ w. search rne-odd) c.if-last-eq1.either

pub returns-else-last-eq1 : goal.returns-else-last-eq1
returns-else-last-eq1 c = search rne-even

pub returns-in-Rdn : goal.returns-in-Rdn
returns-in-Rdn c = search rdn

pub returns-in-Rod : goal.returns-in-Rod
returns-in-Rod c = search rod
