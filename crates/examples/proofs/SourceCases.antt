-- The words that read one register twice get the answers that are listed, by computation.
use mathlib.Core.Path.{refl}
use Rattle.control.specs.Vtype.{vlmax_of, supported_of}
use Rattle.control.specs.Control.{possible_of, typed_well_of}
use Rattle.turn_theory.specs.Turn.{turn, clean, written}
use Rattle.refusal.specs.Refusal.{refusal_of}
use Rattle.decode.specs.Listing.{entry_of, find, listing, vwxunary0, vmunary0}
use Rattle.decode.specs.Word.{decode_of, arithmetic_of, resolved_of, source_of, memory_of, width_of, unit_of}
use Rattle.group.specs.Group.{placed_of, emul8_of, may_overlap_of, may_share_of, spares_v0}
use Rattle.plan.specs.Plan.{read_at, second_of, shaped_of, moving_of, by_mode, plan_of}
use Rattle.plan.specs.Sources.{element_sources, sources_of}
use Rattle.legality.specs.Legal.{read_fits, operands_fit, elements_legal, one_turn_legal, sources_fit, kind_legal, legal_of}
use Rattle.machine.specs.OneTurn.{one_turn_result}
use Rattle.machine.specs.Machine.{turn_of, rejection_at}
use Rattle.examples.specs.SourceCases.{SourceCases}

pub source-cases : SourceCases
unfolding turn_of turn clean written decode_of arithmetic_of resolved_of source_of entry_of find listing vwxunary0 vmunary0 memory_of width_of
    unit_of rejection_at refusal_of possible_of typed_well_of supported_of vlmax_of plan_of shaped_of second_of read_at moving_of by_mode legal_of
    kind_legal elements_legal one_turn_legal operands_fit read_fits placed_of emul8_of may_overlap_of spares_v0 sources_fit may_share_of sources_of
    element_sources one_turn_result
source-cases = record {
  masked-data = refl;
  v0-operand = refl;
  v0-data = refl;
  v0-written = refl;
  mask-logical = refl;
  on-masks = refl;
  accumulator = refl;
  no-accumulator = refl;
  masked-access = refl;
  unmasked-access = refl;
  stored-index = refl;
}
