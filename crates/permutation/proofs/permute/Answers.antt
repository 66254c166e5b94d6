use Rattle.permutation.proofs.PermutationLaws.{stayed, moved}
use Rattle.permutation.proofs.permute.Goals as goal

pub returns-then-stays : goal.returns-then-stays
returns-then-stays c = λ memory x d.
    let given = c.args in
    stayed _ _ memory x d given.e given.p _ _ _ c.value-x.ensures c.stays.ensures c.if-stays.true

pub returns : goal.returns
returns c = λ memory x d. search moved
