use Rattle.reduction.proofs.FoldLaws.{active-step, active-fits}
use Rattle.reduction.proofs.step.Goals as goal

pub returns-then-active : goal.returns-then-active
returns-then-active c = record { value = search active-step; upper_bound = search active-fits }
