-- The reductions come to what is listed, and their words get the answers that are listed, by computation.
use mathlib.Core.Path.{refl}
use Rattle.width.specs.Width.{signed, wrap}
use Rattle.control.specs.Vtype.{vlmax_of, supported_of}
use Rattle.control.specs.Control.{possible_of, typed_well_of}
use Rattle.turn_theory.specs.Turn.{turn, clean, written}
use Rattle.refusal.specs.Refusal.{refusal_of}
use Rattle.decode.specs.Listing.{listing, find, entry_of}
use Rattle.decode.specs.Word.{decode_of, arithmetic_of, resolved_of}
use Rattle.layout.specs.Layout.{bytes_at, bit_at, with_bytes, element_at, with_element}
use Rattle.group.specs.Group.{placed_of, emul8_of, may_share_of}
use Rattle.plan.specs.Plan.{reducing_of, plan_of}
use Rattle.plan.specs.Sources.{reduction_sources, sources_of}
use Rattle.legality.specs.Legal.{one_turn_legal, sources_fit, kind_legal, legal_of}
use Rattle.machine.specs.OneTurn.{active_elements, reduced_file, one_turn_result}
use Rattle.machine.specs.Machine.{turn_of, rejection_at}
use Rattle.examples.specs.ReductionCases.{ReductionCases}

pub reduction-cases : ReductionCases
unfolding turn_of turn clean written decode_of arithmetic_of resolved_of entry_of find listing rejection_at refusal_of possible_of typed_well_of
    supported_of vlmax_of plan_of reducing_of legal_of kind_legal one_turn_legal placed_of emul8_of sources_fit may_share_of sources_of reduction_sources
    one_turn_result reduced_file active_elements element_at with_element bytes_at bit_at with_bytes signed wrap
reduction-cases = record {
  sum-and-or-xor = refl;
  least-and-greatest = refl;
  widening-sums = refl;
  some-active = refl;
  none-active = refl;
  no-elements = refl;
  onto-itself = refl;
  onto-the-mask = refl;
  one-turn = refl;
  none_passed = refl;
  started = refl;
  any-registers = refl;
  in-the-group = refl;
  v0-as-data = refl;
  at-e64 = refl;
  other-columns = refl;
}
