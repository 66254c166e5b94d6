-- The turns tell the answers, pages and rights that are listed, by computation.
use mathlib.Core.Path.{refl}
use Rattle.control.specs.Vtype.{vlmax_of, supported_of}
use Rattle.control.specs.Control.{possible_of, typed_well_of}
use Rattle.turn_theory.specs.Turn.{turn, clean, written}
use Rattle.refusal.specs.Refusal.{refusal_of}
use Rattle.decode.specs.Word.{decode_of, memory_of, width_of, unit_of}
use Rattle.layout.specs.Layout.{bytes_at, with_bytes, with_element}
use Rattle.group.specs.Group.{placed_of, emul8_of, may_overlap_of, may_share_of, spares_v0}
use Rattle.access.specs.Access.{access_of, fields_access}
use Rattle.plan.specs.Plan.{moving_of, by_mode, plan_of}
use Rattle.plan.specs.Sources.{element_sources, sources_of}
use Rattle.legality.specs.Legal.{read_fits, operands_fit, elements_legal, sources_fit, kind_legal, legal_of}
use Rattle.machine.specs.Effect.{put_of, put_all, value_of, each_field, acting_of, effect_of}
use Rattle.machine.specs.Machine.{turn_of, rejection_at}
use Rattle.examples.specs.TrapCases.{TrapCases}

pub trap-cases : TrapCases
unfolding turn_of turn clean written decode_of memory_of width_of unit_of rejection_at refusal_of possible_of typed_well_of supported_of vlmax_of
    plan_of moving_of by_mode legal_of kind_legal elements_legal operands_fit read_fits placed_of emul8_of may_overlap_of spares_v0 sources_fit may_share_of
    sources_of element_sources effect_of acting_of each_field value_of put_all put_of with_element with_bytes bytes_at fields_access access_of
trap-cases = record {
  page-closed = refl;
  page-closed-to-stores = refl;
  page-read-only = refl;
  page-opened = refl;
  page-opened-to-stores = refl;
  not_aligned = refl;
  past_memory = refl;
  field-page = refl;
}
