-- What each of the two boards decides: what goes by one of its numbers, over any board; the rest by computation.
use Rattle.std.specs.Prelude.{Ok}
use Prim.Native.Nat.{◌^◌, ◌*◌}
use mathlib.Core.Path.{◌≡◌, refl}
use mathlib.Core.Bool.{Bool, true, false, ◌&&◌}
use mathlib.Core.List.{map}
use lib.ListN.{replicate}
use lib.Dec.{ltb}
use Rattle.control.specs.declared.Board.{Board}
use Rattle.control.specs.Board.{base, small}
use Rattle.control.specs.Vtype.{vlmax_of, supported_of}
use Rattle.control.specs.Control.{reset, typed_well_of, possible_of}
use Rattle.csr.specs.Csr.{read_of, written_of}
use Rattle.refusal.specs.Refusal.{refusal_of}
use Rattle.turn_theory.specs.Turn.{turn, clean}
use Rattle.decode.specs.Listing.{entry_of, find, listing}
use Rattle.decode.specs.Word.{decode_of, arithmetic_of, resolved_of, source_of, width_of, whole_of, unit_of, memory_of}
use Rattle.group.specs.Group.{placed_of, emul8_of, may_overlap_of, may_share_of, spares_v0}
use Rattle.plan.specs.Plan.{read_at, second_of, shaped_of, by_mode, moving_of, plan_of}
use Rattle.plan.specs.Sources.{element_sources, sources_of}
use Rattle.legality.specs.Legal.{read_fits, operands_fit, elements_legal, sources_fit, kind_legal, legal_of}
use Rattle.machine.specs.Machine.{turn_of, rejection_at}
use Rattle.examples.specs.Values.{supported_below}
use Rattle.examples.specs.Boards.{Numbers, base_numbers, small_numbers, vlmax_tables, eew64_answers, product_answers, Decides}

no-right : (p q : Bool) → q ≡ false → (p && q) ≡ false
no-right true q e = e
no-right false q e = refl

yes-right : (p : Bool) → (p && true) ≡ p
yes-right true = refl
yes-right false = refl

-- what goes by one of a board's numbers, over any board; the rest is computed at each
module _ (b : Board) (n : Numbers) where
  decided :
      8 * b.vlenb ≡ n.vlen → b.elen ≡ n.elen → b.vlenb ≡ n.vlenb → 32 * b.vlenb ≡ n.file →
      8 * b.vlenb ≡ n.vstarts → 8 * b.vlenb ≡ 2 ^ n.kept → 64 * b.vlenb ≡ n.bound →
      refusal_of b n.file 32 0 (replicate 256 0) reset ≡ Ok tt → supported_below b 256 ≡ n.types →
      vlmax_tables b ≡ replicate 4 n.vlmax → eew64_answers b ≡ n.eew64 → product_answers b ≡ map (replicate 4) n.products →
      Decides b n
  unfolding read_of written_of refusal_of possible_of typed_well_of
  decided vlen elen vlenb file vstarts kept bound accepted types vlmax eew64 products = record {
    vlen-is = vlen;
    elen-is = elen;
    vlenb-is = λ c e h. rw (e, h, ← vlenb) refl;
    other-file = λ bytes scalars memory rights c e. rw (file, e) refl;
    file-is = accepted;
    types_are = types;
    vlmax-is = vlmax;
    other-vstart = λ c e. no-right (typed_well_of b c) _ (rw (vstarts, e) refl);
    vstarts-are = λ v. rw vstarts (yes-right (ltb v n.vstarts));
    kept-are = λ c x e h. rw (e, h, kept) refl;
    bound-is = λ c. rw bound refl;
    eew64-is = eew64;
    products-are = products;
  }

pub base-decides : Decides base base_numbers
unfolding refusal_of possible_of typed_well_of supported_of vlmax_of turn_of turn clean decode_of arithmetic_of resolved_of source_of entry_of find
    listing width_of whole_of unit_of memory_of rejection_at plan_of shaped_of second_of read_at by_mode moving_of legal_of kind_legal elements_legal
    operands_fit read_fits placed_of emul8_of may_overlap_of spares_v0 sources_fit may_share_of sources_of element_sources
base-decides = decided base base_numbers refl refl refl refl refl refl refl refl refl refl refl refl

pub small-decides : Decides small small_numbers
unfolding refusal_of possible_of typed_well_of supported_of vlmax_of turn_of turn clean decode_of arithmetic_of resolved_of source_of entry_of find
    listing width_of whole_of unit_of memory_of rejection_at plan_of shaped_of second_of read_at by_mode moving_of legal_of kind_legal elements_legal
    operands_fit read_fits placed_of emul8_of may_overlap_of spares_v0 sources_fit may_share_of sources_of element_sources
small-decides = decided small small_numbers refl refl refl refl refl refl refl refl refl refl refl refl
