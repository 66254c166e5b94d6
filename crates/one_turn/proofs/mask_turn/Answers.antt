use mathlib.Core.Logic.{⊎_elim}
use Rattle.machine.specs.OneTurn.{mask_result}
use Rattle.one_turn.proofs.ResultLaws.{left}
use Rattle.one_turn.proofs.mask_turn.Goals as goal

pub returns-in-Vcpop : goal.returns-in-Vcpop
unfolding mask_result
returns-in-Vcpop c = search left

pub returns-in-Vfirst : goal.returns-in-Vfirst
unfolding mask_result
returns-in-Vfirst c = search left

pub returns-in-Vmsbf : goal.returns-in-Vmsbf
unfolding mask_result
returns-in-Vmsbf c = ⊎_elim (λ e. search left) (⊎_elim (λ e. search left) (λ e. search left)) c.in-Vmsbf.is
