-- The permutations and scalar moves write what is listed, and their words get the answers that are listed, by computation.
use mathlib.Core.Path.{refl}
use Rattle.width.specs.Width.{signed, wrap}
use Rattle.control.specs.Vtype.{vlmax_of, supported_of}
use Rattle.control.specs.Control.{possible_of, typed_well_of}
use Rattle.turn_theory.specs.Turn.{turn, clean, written}
use Rattle.refusal.specs.Refusal.{refusal_of}
use Rattle.decode.specs.Listing.{listing, vwxunary0, vmunary0, find, entry_of}
use Rattle.decode.specs.Word.{decode_of, arithmetic_of, resolved_of, source_of}
use Rattle.layout.specs.Layout.{bytes_at, bit_at, with_bytes, element_at, with_element}
use Rattle.group.specs.Group.{placed_of, emul8_of, may_overlap_of, may_share_of, spares_v0}
use Rattle.plan.specs.Plan.{read_at, second_of, index_of, permuting_of, packing_of, scalar_moving_of, plan_of}
use Rattle.plan.specs.Sources.{element_sources, packing_sources, sources_of}
use Rattle.legality.specs.Legal.{read_fits, operands_fit, elements_legal, one_turn_legal, sources_fit, kind_legal, legal_of}
use Rattle.machine.specs.Effect.{put_of, put_all, value_of, acting_of, effect_of}
use Rattle.machine.specs.OneTurn.{population_of, writing_each, scalar_move_result, one_turn_result}
use Rattle.machine.specs.Machine.{turn_of, rejection_at}
use Rattle.machine.specs.Demands.{turns_of}
use Rattle.examples.specs.PermutationCases.{PermutationCases}

pub permutation-cases : PermutationCases
unfolding turn_of turns_of turn clean written decode_of arithmetic_of resolved_of source_of entry_of find listing vwxunary0 vmunary0 rejection_at
    refusal_of possible_of typed_well_of supported_of vlmax_of plan_of permuting_of packing_of scalar_moving_of read_at second_of index_of legal_of
    kind_legal elements_legal one_turn_legal operands_fit read_fits placed_of emul8_of may_overlap_of spares_v0 sources_fit may_share_of sources_of
    element_sources packing_sources effect_of acting_of value_of put_all put_of one_turn_result scalar_move_result writing_each population_of element_at
    with_element bytes_at bit_at with_bytes signed wrap
permutation-cases = record {
  indices = refl;
  iota = refl;
  iota-masked = refl;
  compress = refl;
  slide-up = refl;
  slide-up-passed = refl;
  slide-up-far = refl;
  slide-down-far = refl;
  past-vl-and-vlmax = refl;
  past-half-a-register = refl;
  onto-its-source = refl;
  one_by_one = refl;
  slide-one-up = refl;
  slide-one-down = refl;
  gather-scalar = refl;
  gather = refl;
  to-scalar = refl;
  to-x0 = refl;
  from-scalar = refl;
  vstart-after = refl;
  one-turn = refl;
  none_passed = refl;
  started = refl;
  slide-onto-source = refl;
  gather-onto-source = refl;
  pack-onto-source = refl;
  v0-as-data = refl;
  onto-the-mask = refl;
  index-groups = refl;
  reserved = refl;
  any-registers = refl;
}
