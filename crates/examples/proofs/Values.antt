-- The worked values hold, by computation.
use mathlib.Core.Path.{◌≡◌, refl}
use mathlib.Core.List.{[], ◌∷◌, map}
use Rattle.answer.specs.declared.Answer.TheVariants.{Finished, Illegal}
use Rattle.width.specs.Width.{signed, wrap}
use Rattle.control.specs.Vtype.{vlmax_of, supported_of}
use Rattle.control.specs.Control.{set_of}
use Rattle.fixed.specs.Round.{increment, roundoff_unsigned, roundoff_signed, clip_unsigned, clip_signed}
use Rattle.fixed.specs.Fixed.{vaadd, vasub, vsmul, vnclipu}
use Rattle.turn_theory.specs.Turn.{turn, clean, written}
use Rattle.control.specs.Control.{possible_of, typed_well_of}
use Rattle.refusal.specs.Refusal.{refusal_of}
use Rattle.decode.specs.Listing.{entry_of, find, listing}
use Rattle.decode.specs.Word.{decode_of, arithmetic_of, resolved_of, source_of, setting_of, avl_of}
use Rattle.group.specs.Group.{placed_of, emul8_of, may_overlap_of, may_share_of, spares_v0}
use Rattle.plan.specs.Plan.{read_at, second_of, shaped_of, plan_of}
use Rattle.plan.specs.Sources.{element_sources, sources_of}
use Rattle.legality.specs.Legal.{read_fits, operands_fit, elements_legal, one_turn_legal, sources_fit, kind_legal, legal_of}
use Rattle.machine.specs.OneTurn.{setting_result, one_turn_result}
use Rattle.machine.specs.Machine.{turn_of, rejection_at}
use Rattle.examples.specs.Values.{added_at, Values, Changes}

-- a turn that finishes, and an illegal one: no machine that answers every word alike meets the definition
pub two-answers : map added_at (15 ∷ 16 ∷ []) ≡ (Finished ∷ Illegal ∷ [])
unfolding turn_of turn clean decode_of arithmetic_of resolved_of source_of entry_of find listing rejection_at refusal_of possible_of typed_well_of
    supported_of vlmax_of plan_of shaped_of second_of read_at legal_of kind_legal elements_legal operands_fit read_fits placed_of emul8_of may_overlap_of
    spares_v0 sources_fit may_share_of sources_of element_sources
two-answers = refl

pub values : Values
unfolding signed wrap vlmax_of supported_of set_of increment roundoff_unsigned roundoff_signed clip_unsigned clip_signed vaadd vasub vsmul vnclipu
values = record {
  P1 = refl;
  P2 = refl;
  P3 = refl;
  P4 = refl;
  P5 = refl;
  P6 = refl;
  P7a = refl;
  P7b = refl;
  P8 = refl;
  P9a = refl;
  P9b = refl;
  P9c = refl;
  P9d = refl;
  P9e = refl;
  P10 = two-answers;
  supported = refl;
}

pub changes : Changes
unfolding turn_of turn clean written decode_of arithmetic_of resolved_of entry_of setting_of avl_of rejection_at refusal_of possible_of
    typed_well_of supported_of vlmax_of plan_of legal_of kind_legal one_turn_legal sources_fit sources_of one_turn_result setting_result set_of
changes = refl
