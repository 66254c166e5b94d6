-- A turn goes by VS only in that it is Off or above Dirty: from a state with VS in use, Initial, Clean and Dirty give the same turn.
use Prim.Native.Nat.{ℕ}
use mathlib.Core.Path.{◌≡◌, refl, ap, ◌∙◌}
use mathlib.Core.Bool.{Bool, true, false, not, ◌&&◌, cond}
use mathlib.Core.List.{List, [], ◌∷◌}
use mathlib.Core.Option.{none}
use lib.ListN.{length}
use lib.Dec.{leb, eqb}
use borrow.Author.Tests.{le-leb}
use Rattle.std.specs.Prelude.{Option, Some, None}
use Rattle.laws.proofs.Apart.{both_left, both_right}
use Rattle.laws.proofs.Chain.{either}
use Rattle.answer.specs.declared.Answer.{Answer}
use Rattle.control.specs.declared.Board.{Board}
use Rattle.control.specs.declared.Control.{Control}
use Rattle.control.specs.Control.{off, dirty, with_vstart, with_vs, set_to, vill_of, keeps_of, set_of, typed_well_of, possible_of}
use Rattle.control.specs.Vtype.{supported_of}
use Rattle.control.proofs.Laws.{possible-apart}
use Rattle.decode.specs.declared.MaskOp.{MaskOp}
use Rattle.decode.specs.declared.MaskOp.TheVariants.{Vcpop, Vfirst, Vmsbf, Vmsof, Vmsif}
use Rattle.decode.specs.declared.MaskInstruction.{MaskInstruction}
use Rattle.decode.specs.declared.ScalarMoveOp.{ScalarMoveOp}
use Rattle.decode.specs.declared.ScalarMoveOp.TheVariants.{VmvXS, VmvSX}
use Rattle.access.specs.declared.Fault.{Fault}
use Rattle.refusal.specs.Refusal.{refusal_of}
use Rattle.plan.specs.declared.Action.{Action}
use Rattle.plan.specs.declared.Action.TheVariants as A
use Rattle.plan.specs.declared.Elementwise.{Elementwise}
use Rattle.plan.specs.declared.ScalarMove.{ScalarMove}
use Rattle.plan.specs.declared.OneTurn.TheVariants as O
use Rattle.plan.specs.declared.Plan.{Plan}
use Rattle.plan.specs.declared.Plan.TheVariants as P
use Rattle.legality.specs.Legal.{elements_legal, one_turn_legal, kind_legal, legal_of}
use Rattle.legality.proofs.LegalLaws.{on-of-legal}
use Rattle.turn_theory.specs.Turn.{Ending, Semantics, Turn, Point, remaining, passing, turn}
use Rattle.turn_theory.specs.Claims.{Unseen}
use Rattle.turn_theory.proofs.Laws.{turn-cases, written_keeps}
use Rattle.machine.specs.State.{Core, with_control}
use Rattle.machine.specs.Effect.{Write, to_registers, to_memory, put_of, put_all, acting_of, effect_of}
use Rattle.machine.specs.OneTurn.{type_from, avl_from, setting_result, mask_result, scalar_move_result, one_turn_result}
use Rattle.machine.specs.Machine.{effect_at, result_at, rejection_at, semantics_of, vs_after}
use Rattle.machine.proofs.EffectLaws.{all_keep}
use Rattle.machine.proofs.Lawful.{facts}

-- VS is neither Off nor above Dirty
abbrev pub in_use : ℕ → Bool
in_use v = not (eqb v off) && leb v dirty

-- a VS in use as Dirty
abbrev as_dirty : Control → Control
as_dirty c = with_vs c (cond (in_use c.vs) dirty c.vs)

abbrev pub settled : Core → Core
settled s = with_control (as_dirty s.control) s

-- ---- what a legal turn finds

pub legal-in-use : (b : Board) (p : Plan) (r : List ℕ) (s : Core) (v : ℕ) → rejection_at b p r s v ≡ none → in_use s.control.vs ≡ true
legal-in-use b p r s v h =
    let f = facts b p r s v h in
    rw (
      on-of-legal b (with_vstart s.control v) p f.legal,
      le-leb s.control.vs dirty (possible-apart b (with_vstart s.control v) f.acceptable.possible).vs,
    )

-- ---- refusals and legality

possible-settled : (b : Board) (c : Control) → possible_of b (as_dirty c) ≡ possible_of b c
unfolding possible_of typed_well_of
possible-settled b c =
    either (λ (v : ℕ). possible_of b (with_vs c v) ≡ possible_of b c) (in_use c.vs) dirty c.vs
    (λ h. rw (both_right (not (eqb c.vs off)) (leb c.vs dirty) h)) (λ h. refl)

refusal-settled : (b : Board) (registers scalars memory : ℕ) (r : List ℕ) (c : Control)
    → refusal_of b registers scalars memory r (as_dirty c) ≡ refusal_of b registers scalars memory r c
unfolding refusal_of
refusal-settled b registers scalars memory r c = rw (possible-settled b c)

-- every rule but that of VS
kind-settled : (b : Board) (c : Control) (v : ℕ) (p : Plan) → kind_legal b (with_vs c v) p ≡ kind_legal b c p
unfolding kind_legal elements_legal one_turn_legal
kind-settled b c v P.Illegal = refl
kind-settled b c v (P.OneTurn (O.Setting t)) = refl
kind-settled b c v (P.OneTurn (O.Mask m)) = refl
kind-settled b c v (P.OneTurn (O.Reduction r)) = refl
kind-settled b c v (P.OneTurn (O.Packing p)) = refl
kind-settled b c v (P.OneTurn (O.ScalarMove m)) = refl
kind-settled b c v (P.Elements e) = refl

legal-settled : (b : Board) (c : Control) (p : Plan) → legal_of b (as_dirty c) p ≡ legal_of b c p
unfolding legal_of
legal-settled b c p =
    either (λ (v : ℕ). legal_of b (with_vs c v) p ≡ legal_of b c p) (in_use c.vs) dirty c.vs
    (λ h. rw (kind-settled b c dirty p, both_left (not (eqb c.vs off)) (leb c.vs dirty) h)) (λ h. refl)

rejection-settled : (b : Board) (p : Plan) (r : List ℕ) (s : Core) (v : ℕ) → rejection_at b p r (settled s) v ≡ rejection_at b p r s v
unfolding rejection_at
rejection-settled b p r s v =
    rw (
      refusal-settled b (length s.registers) (length s.scalars) (length s.memory) r (with_vstart s.control v),
      legal-settled b (with_vstart s.control v) p,
    )

-- ---- effects, writes and results

acting-settled : (b : Board) (r : List ℕ) (s : Core) (e : Elementwise) (k : ℕ) (a : Action)
    → acting_of b r (settled s) e k a ≡ acting_of b r s e k a
unfolding acting_of
acting-settled b r s e k (A.Compute c) = refl
acting-settled b r s e k (A.Permute p) = refl
acting-settled b r s e k (A.Transfer t) = refl

effect-settled : (b : Board) (p : Plan) (r : List ℕ) (s : Core) (k : ℕ) → effect_at b p r (settled s) k ≡ effect_at b p r s k
unfolding effect_of
effect-settled b P.Illegal r s k = refl
effect-settled b (P.OneTurn t) r s k = refl
effect-settled b (P.Elements e) r s k = rw (acting-settled b r s e k e.action)

put-settled : (b : Board) (w : Write) (s : Core) → put_of b.vlenb w (settled s) ≡ settled (put_of b.vlenb w s)
unfolding put_of
put-settled b (to_registers g i x) s = refl
put-settled b (to_memory a n x) s = refl

all_settled : (b : Board) (ws : List Write) (s : Core) → put_all b.vlenb ws (settled s) ≡ settled (put_all b.vlenb ws s)
unfolding put_all
all_settled b [] s = refl
all_settled b (w ∷ ws) s = ap (put_all b.vlenb ws) (put-settled b w s) ∙ all_settled b ws (put_of b.vlenb w s)

set-settled : (b : Board) (c : Control) (v : ℕ) (a : Option ℕ) → set_of b (as_dirty c) v a ≡ as_dirty (set_of b c v a)
unfolding set_of
set-settled b c v a = by-avl a
  where
    branch : (t : Bool) (vl : ℕ) → cond t (set_to (as_dirty c) v vl) (vill_of (as_dirty c)) ≡ as_dirty (cond t (set_to c v vl) (vill_of c))
    branch true vl = refl
    branch false vl = refl

    by-avl : (a : Option ℕ) → set_of b (as_dirty c) v a ≡ as_dirty (set_of b c v a)
    by-avl (Some avl) = branch (supported_of b v) _
    by-avl None = branch (supported_of b v && keeps_of b c v) c.vl

mask-settled : (vlenb vl : ℕ) (m : MaskInstruction) (s : Core) (o : MaskOp)
    → mask_result vlenb vl m (settled s) o ≡ settled (mask_result vlenb vl m s o)
unfolding mask_result
mask-settled vlenb vl m s Vcpop = refl
mask-settled vlenb vl m s Vfirst = refl
mask-settled vlenb vl m s Vmsbf = refl
mask-settled vlenb vl m s Vmsof = refl
mask-settled vlenb vl m s Vmsif = refl

move-settled : (vlenb : ℕ) (m : ScalarMove) (v : ℕ) (s : Core) (o : ScalarMoveOp)
    → scalar_move_result vlenb m v (settled s) o ≡ settled (scalar_move_result vlenb m v s o)
unfolding scalar_move_result
move-settled vlenb m v s VmvXS = refl
move-settled vlenb m v s VmvSX = refl

result-settled : (b : Board) (p : Plan) (v : ℕ) (s : Core) → result_at b p v (settled s) ≡ settled (result_at b p v s)
unfolding one_turn_result setting_result
result-settled b P.Illegal v s = refl
result-settled b (P.OneTurn (O.Setting t)) v s =
    rw (set-settled b s.control (type_from s.scalars t.vtype) (avl_from s.scalars t.avl))
result-settled b (P.OneTurn (O.Mask m)) v s = mask-settled b.vlenb s.control.vl m s m.op
result-settled b (P.OneTurn (O.Reduction r)) v s = refl
result-settled b (P.OneTurn (O.Packing p)) v s = refl
result-settled b (P.OneTurn (O.ScalarMove m)) v s = move-settled b.vlenb m v s m.op
result-settled b (P.Elements e) v s = refl

-- ---- VS stays in use

abbrev InUse : Core → Type 0
InUse s = in_use s.control.vs ≡ true

put-in-use : (b : Board) (w : Write) (s : Core) → InUse s → InUse (put_of b.vlenb w s)
unfolding put_of
put-in-use b (to_registers g i x) s h = h
put-in-use b (to_memory a n x) s h = h

set-in-use : (b : Board) (c : Control) (v : ℕ) (a : Option ℕ) → in_use c.vs ≡ true → in_use (set_of b c v a).vs ≡ true
unfolding set_of
set-in-use b c v (Some avl) h = either (λ (d : Control). in_use d.vs ≡ true) (supported_of b v) _ _ (λ t. h) (λ t. h)
set-in-use b c v None h = either (λ (d : Control). in_use d.vs ≡ true) (supported_of b v && keeps_of b c v) _ _ (λ t. h) (λ t. h)

mask-in-use : (vlenb vl : ℕ) (m : MaskInstruction) (s : Core) (o : MaskOp) → InUse s → InUse (mask_result vlenb vl m s o)
unfolding mask_result
mask-in-use vlenb vl m s Vcpop h = h
mask-in-use vlenb vl m s Vfirst h = h
mask-in-use vlenb vl m s Vmsbf h = h
mask-in-use vlenb vl m s Vmsof h = h
mask-in-use vlenb vl m s Vmsif h = h

move-in-use : (vlenb : ℕ) (m : ScalarMove) (v : ℕ) (s : Core) (o : ScalarMoveOp) → InUse s → InUse (scalar_move_result vlenb m v s o)
unfolding scalar_move_result
move-in-use vlenb m v s VmvXS h = h
move-in-use vlenb m v s VmvSX h = h

result-in-use : (b : Board) (p : Plan) (v : ℕ) (s : Core) → InUse s → InUse (result_at b p v s)
unfolding one_turn_result setting_result
result-in-use b P.Illegal v s h = h
result-in-use b (P.OneTurn (O.Setting t)) v s h =
    set-in-use b s.control (type_from s.scalars t.vtype) (avl_from s.scalars t.avl) h
result-in-use b (P.OneTurn (O.Mask m)) v s h = mask-in-use b.vlenb s.control.vl m s m.op h
result-in-use b (P.OneTurn (O.Reduction r)) v s h = h
result-in-use b (P.OneTurn (O.Packing p)) v s h = h
result-in-use b (P.OneTurn (O.ScalarMove m)) v s h = move-in-use b.vlenb m v s m.op h
result-in-use b (P.Elements e) v s h = h

-- the state that a turn leaves, with the VS that it sets
abbrev marked : Ending Fault Answer → Core → Core
marked e s = with_control (with_vs s.control (vs_after e s.control.vs)) s

module _ (b : Board) (p : Plan) (t : Turn (semantics_of b p)) (q : Point (semantics_of b p)) where
  abbrev J : Semantics
  J = semantics_of b p

  abbrev passing_at : ℕ → Core
  passing_at = passing J t.rights q

  passing-in-use : (k : ℕ) → rejection_at b p t.rights q.state q.vstart ≡ none → InUse (passing_at k)
  passing-in-use k h =
      written_keeps J InUse (all_keep b.vlenb InUse (put-in-use b)) t.rights q.state q.vstart k q.state
      (legal-in-use b p t.rights q.state q.vstart h)

  pub marked-settled : settled (marked (turn J t q).ending (turn J t q).after.state) ≡ settled (turn J t q).after.state
  marked-settled = turn-cases J t q (λ o. settled (marked o.ending o.after.state) ≡ settled o.after.state) (record {
    on-rejected = λ x e. refl;
    on-trapped = λ x k h l f e. rw (passing-in-use k h);
    on-paused = λ k h l e f. rw (passing-in-use k h);
    on-finished = λ h l.
        let n : ℕ = remaining J q in
        rw (result-in-use b p q.vstart (passing_at n) (passing-in-use n h.is-legal));
  })

-- ---- a turn from a state whose VS is in use, and from the same state with VS Dirty

pub status-unseen : (b : Board) (p : Plan) (s : Core) (v : ℕ) → Unseen (semantics_of b p) settled s v
status-unseen b p s v = record {
  rejection = λ r. rejection-settled b p r s v;
  count = refl;
  effect = λ r k _ _. effect-settled b p r s k;
  put = λ r k w _ _ _ x. all_settled b w x;
  finish = result-settled b p v;
}
