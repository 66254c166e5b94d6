use native.Mathlib.Omega.{arith}
use Rattle.width.proofs.FlagLaws.{flag-from}
use Rattle.one_turn.proofs.MaskLaws.{flag-le, population-none, population-more}
use Rattle.one_turn.proofs.count.Goals as goal

pub loop-i-init : goal.loop-i-init
loop-i-init c = (omega arith, population-none _ _ _ _)

pub loop-i-preserved : goal.loop-i-preserved
loop-i-preserved c = (omega (arith, flag-le c.set_at.result _ (flag-from _ _ c.from-n.ensures)), search (population-more, flag-from))
