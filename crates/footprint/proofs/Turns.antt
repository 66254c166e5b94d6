-- A turn from a state with a change that the word does not touch is the turn from that state, followed by the change.
use Prim.Native.Nat.{ℕ, ◌*◌, ◌≤◌, ◌<◌}
use mathlib.Core.Path.{◌≡◌, refl, sym, ap, ◌∙◌, subst}
use mathlib.Core.Bool.{cond}
use mathlib.Core.List.{List, [], ◌∷◌, ◌++◌}
use mathlib.Core.Option.{Option, none, some}
use native.Mathlib.Omega.{arith}
use lib.Dec.{T, lit<}
use Rattle.answer.specs.declared.Answer.{Answer}
use Rattle.control.specs.declared.Board.{Board}
use Rattle.control.specs.declared.Control.{Control}
use Rattle.control.specs.Board.{Valid}
use Rattle.control.proofs.Laws.{possible-apart}
use Rattle.decode.specs.declared.MaskOp.{MaskOp}
use Rattle.decode.specs.declared.MaskOp.TheVariants.{Vcpop, Vfirst, Vmsbf, Vmsof, Vmsif}
use Rattle.decode.specs.declared.MaskInstruction.{MaskInstruction}
use Rattle.decode.specs.declared.Instruction.{Instruction}
use Rattle.decode.specs.declared.Instruction.TheVariants as I
use Rattle.decode.specs.Word.{decode_of}
use Rattle.decode.proofs.Fields.{fits}
use Rattle.group.specs.Group.{mask_group}
use Rattle.plan.specs.declared.Read.TheVariants as R
use Rattle.plan.specs.declared.Elementwise.{Elementwise}
use Rattle.plan.specs.declared.OneTurn.{OneTurn}
use Rattle.plan.specs.declared.OneTurn.TheVariants as O
use Rattle.plan.specs.declared.Plan.{Plan}
use Rattle.plan.specs.declared.Plan.TheVariants as P
use Rattle.plan.specs.Plan.{scalar_moving_of, plan_of}
use Rattle.plan.specs.Sources.{registers_read, v0_source, reduction_sources, packing_sources, one_turn_sources, sources_of}
use Rattle.legality.specs.Legal.{writes_mask, kind_legal}
use Rattle.legality.proofs.LegalLaws.{rules-of-legal, elements-of-legal, one-turn-of-legal}
use Rattle.turn_theory.specs.Turn.{finished, TurnEnd}
use Rattle.turn_theory.specs.Claims.{Unseen}
use Rattle.turn_theory.proofs.Laws.{turn-rejected, one-turn}
use Rattle.turn_theory.proofs.Changes.{passes-by}
use Rattle.machine.specs.State.{State, Outcome, Core, core_of}
use Rattle.machine.specs.OneTurn.{one_turn_result}
use Rattle.machine.specs.Machine.{rejection_at, semantics_of, outcome_of, plan_turn, plan_at, turn_of}
use Rattle.machine.proofs.Lawful.{facts, elements-fit}
use Rattle.machine.proofs.Demands.{turn_with, point_of}
use Rattle.footprint.specs.Footprint.{one_turn_destinations, destinations_of, avl_scalars, type_scalars, scalars_of, addresses_byte}
use Rattle.footprint.specs.Changes.{Change, with_change}
use Rattle.footprint.proofs.Spared.{registers-length, scalars-length, memory-length, Avoids, avoids-first, avoids-rest}
use Rattle.footprint.proofs.Spared.{ElementKept, read_kept, first-kept, bit-contained}
use Rattle.footprint.proofs.Contained.{OneTurnContained, PlanContained, plan-contained}
use Rattle.footprint.proofs.Elements.{core_with, ElementSpared, effect-same, effect_writes}
use Rattle.footprint.proofs.Untouched.{AvoidsScalars, AvoidsMemory, Untouched, scalar-kept, scalars-others, plan-kept}
use Rattle.footprint.proofs.Untouched.{mask-spared, element-spared, action-spared}
use Rattle.footprint.proofs.Results.{setting_kept, ResultSpared, mask-kept, reduction-kept, packing-kept, move-kept}

-- ---- refusals and legality

pub rejection-same : (b : Board) (p : Plan) (r : List ℕ) (c : Change) (s : Core) (v : ℕ)
    → rejection_at b p r (core_with c s) v ≡ rejection_at b p r s v
unfolding rejection_at
rejection-same b p r c s v = rw (registers-length c s.registers, scalars-length c s.scalars, memory-length c s.memory)

-- ---- instructions that take one turn

-- the scalar registers that one names
abbrev PlanScalars : Change → Plan → Type 0
PlanScalars c P.Illegal = Unit {0}
PlanScalars c (P.OneTurn (O.Setting t)) = AvoidsScalars c (scalars_of (I.Setting t))
PlanScalars c (P.OneTurn (O.Mask m)) = AvoidsScalars c (scalars_of (I.Mask m))
PlanScalars c (P.OneTurn (O.Reduction r)) = Unit {0}
PlanScalars c (P.OneTurn (O.Packing p)) = Unit {0}
PlanScalars c (P.OneTurn (O.ScalarMove m)) = AvoidsScalars c (m.scalar ∷ [])
PlanScalars c (P.Elements e) = Unit {0}

plan-scalars : (b : Board) (x : List ℕ) (d : Control) (c : Change) (i : Instruction) → AvoidsScalars c (scalars_of i)
    → PlanScalars c (plan_of b x d i)
unfolding plan_of scalar_moving_of scalars_of
plan-scalars b x d c I.Illegal h = tt
plan-scalars b x d c (I.Setting t) h = h
plan-scalars b x d c (I.Mask m) h = h
plan-scalars b x d c (I.Reduction a) h = tt
plan-scalars b x d c (I.Pack a) h = tt
plan-scalars b x d c (I.ScalarMove a) h = h
plan-scalars b x d c (I.Arithmetic a) h = tt
plan-scalars b x d c (I.Permutation a) h = tt
plan-scalars b x d c (I.Memory a) h = tt

module _ (b : Board) (w : 1 ≤ b.vlenb) (c : Change) (s : Core) where
  abbrev vlenb : ℕ
  vlenb = b.vlenb

  abbrev vl : ℕ
  vl = s.control.vl

  bits-kept : (reg : ℕ) → vl ≤ 8 * vlenb → Avoids vlenb c (mask_group reg ∷ []) → (i : ℕ) → i < vl → ElementKept vlenb c reg 1 i
  bits-kept reg l h i u = first-kept vlenb w vl c (mask_group reg) i (bit-contained vlenb w vl reg l) h u

  mask-result-spared : (m : MaskInstruction) → vl ≤ 8 * vlenb → (op : MaskOp)
      → Avoids vlenb c (cond (writes_mask op) (mask_group m.rd ∷ []) []) → AvoidsScalars c (cond (writes_mask op) [] (m.rd ∷ []))
      → ResultSpared vlenb vl c m op
  mask-result-spared m l Vcpop h q = scalar-kept c m.rd [] q
  mask-result-spared m l Vfirst h q = scalar-kept c m.rd [] q
  mask-result-spared m l Vmsbf h q = bits-kept m.rd l h
  mask-result-spared m l Vmsof h q = bits-kept m.rd l h
  mask-result-spared m l Vmsif h q = bits-kept m.rd l h

  one-turn-kept : (t : OneTurn) (v : ℕ) → OneTurnContained vlenb vl t → Avoids vlenb c (one_turn_sources t ++ one_turn_destinations t)
      → PlanScalars c (P.OneTurn t) → one_turn_result b t v (core_with c s) ≡ core_with c (one_turn_result b t v s)
  unfolding one_turn_result scalars_of reduction_sources packing_sources
  one-turn-kept (O.Setting t) v l h q =
      let others = (scalars-others c (t.rd ∷ []) (avl_scalars t.avl ++ type_scalars t.vtype) q).1 in
      let both = scalars-others c (avl_scalars t.avl) (type_scalars t.vtype) others in
      setting_kept b c t s (scalar-kept c t.rd _ q) both.0 both.1
  one-turn-kept (O.Mask m) v l h q =
      let v0 = registers_read (v0_source m.masked (R.Constant 0)) in
      let sources = avoids-first vlenb c (mask_group m.vs2 ∷ v0) (one_turn_destinations (O.Mask m)) h in
      mask-kept vlenb vl c m
      (λ i u. mask-spared b w c vl i m.masked (R.Constant 0) l u (avoids-rest vlenb c (mask_group m.vs2 ∷ []) v0 sources))
      (λ i u. read_kept vlenb w vl c (R.Bit m.vs2) i l (avoids-first vlenb c (mask_group m.vs2 ∷ []) v0 sources) u)
      s m.op
      (mask-result-spared m l m.op (avoids-rest vlenb c (mask_group m.vs2 ∷ v0) (one_turn_destinations (O.Mask m)) h) q)
  one-turn-kept (O.Reduction r) v l h q =
      let v0 = registers_read (v0_source r.masked (R.Constant 0)) in
      let sources = avoids-first vlenb c (r.vs2 ∷ r.vs1 ∷ v0) (r.vd ∷ []) h in
      let from-vs1 = avoids-rest vlenb c (r.vs2 ∷ []) (r.vs1 ∷ v0) sources in
      rw (reduction-kept vlenb vl c r
      (λ i u. mask-spared b w c vl i r.masked (R.Constant 0) l.0 u (avoids-rest vlenb c (r.vs1 ∷ []) v0 from-vs1))
      (λ i u. read_kept vlenb w vl c (R.Element r.vs2) i l.1.vs2 (avoids-first vlenb c (r.vs2 ∷ []) (r.vs1 ∷ v0) sources) u)
      (first-kept vlenb w 1 c r.vs1 0 l.1.vs1 (avoids-first vlenb c (r.vs1 ∷ []) v0 from-vs1) (lit< tt))
      (first-kept vlenb w 1 c r.vd 0 l.1.vd (avoids-rest vlenb c (r.vs2 ∷ r.vs1 ∷ v0) (r.vd ∷ []) h) (lit< tt))
      s.registers)
  one-turn-kept (O.Packing p) v l h q =
      let v0 = registers_read (v0_source p.masked (R.Constant 0)) in
      let elements = registers_read p.elements in
      let mask = mask_group p.mask ∷ [] in
      let sources = avoids-first vlenb c (elements ++ mask ++ v0) (p.vd ∷ []) h in
      let two = avoids-first vlenb c (elements ++ mask) v0 sources in
      rw (packing-kept vlenb vl c p
      (λ i u. mask-spared b w c vl i p.masked (R.Constant 0) l.0 u (avoids-rest vlenb c (elements ++ mask) v0 sources))
      (λ i u. read_kept vlenb w vl c (R.Bit p.mask) i l.0 (avoids-rest vlenb c elements mask two) u)
      (λ i u. read_kept vlenb w vl c p.elements i l.1.elements (avoids-first vlenb c elements mask two) u)
      (λ i u. first-kept vlenb w vl c p.vd i l.1.vd (avoids-rest vlenb c (elements ++ mask ++ v0) (p.vd ∷ []) h) u)
      s.registers)
  one-turn-kept (O.ScalarMove m) v l h q =
      move-kept vlenb c m v s
      (first-kept vlenb w 1 c m.vector 0 l (avoids-rest vlenb c (one_turn_sources (O.ScalarMove m)) (m.vector ∷ []) h) (lit< tt))
      (scalar-kept c m.scalar [] q) m.op

-- ---- a plan that is legal

-- an outcome with a change after it
abbrev pub changed_outcome : Change → Outcome → Outcome
changed_outcome c o = record { answer = o.answer; passed = o.passed; place = o.place; after = with_change c o.after }

module _ (b : Board) (w : 1 ≤ b.vlenb) (c : Change) (s : State) where
  abbrev pub LegalAt : Plan → Type 0
  LegalAt p = rejection_at b p s.rights (core_of s) s.control.vstart ≡ none

  -- an element of an instruction that is legal here
  pub elements-spared : (e : Elementwise) → LegalAt (P.Elements e) → PlanContained b s.control (P.Elements e)
      → Avoids b.vlenb c (sources_of (P.Elements e) ++ (e.dest ∷ [])) → (k : ℕ) → k < e.end → ElementSpared b.vlenb c e k
  unfolding sources_of
  elements-spared e h y a k u =
      let f = facts b (P.Elements e) s.rights (core_of s) s.control.vstart h in
      element-spared b w c e k
      (y (elements-fit b s.control e (elements-of-legal b s.control e f.legal)) (omega arith)) a u

  elements-unseen : (e : Elementwise) → LegalAt (P.Elements e) → PlanContained b s.control (P.Elements e)
      → Avoids b.vlenb c (sources_of (P.Elements e) ++ (e.dest ∷ [])) → AvoidsMemory c (addresses_byte b s (P.Elements e))
      → Unseen (semantics_of b (P.Elements e)) (core_with c) (core_of s) s.control.vstart
  elements-unseen e h y a q =
      let spared : (k : ℕ) → k < e.end → ElementSpared b.vlenb c e k = elements-spared e h y a in
      record {
        rejection = λ r. rejection-same b (P.Elements e) r c (core_of s) s.control.vstart;
        count = refl;
        effect = λ r k l u. effect-same b c r e k (spared k u) (core_of s) (λ t. action-spared b s e k l u t c e.action q);
        put = λ r k x l u p. effect_writes b c r e k (spared k u) (core_of s) (λ t. action-spared b s e k l u t c e.action q) x p;
        finish = λ x. refl;
      }

  none-illegal : LegalAt P.Illegal → ⊥
  unfolding kind_legal
  none-illegal h =
      subst T (sym (rules-of-legal b s.control P.Illegal (facts b P.Illegal s.rights (core_of s) s.control.vstart h).legal)) tt

  plan-turn : (n : ℕ) (p : Plan) → LegalAt p → PlanContained b s.control p → Avoids b.vlenb c (sources_of p ++ destinations_of p)
      → PlanScalars c p → AvoidsMemory c (addresses_byte b s p)
      → plan_turn b p n (with_change c s) ≡ changed_outcome c (plan_turn b p n s)
  unfolding sources_of
  plan-turn n P.Illegal h y a x m = absurd (none-illegal h)
  plan-turn n (P.OneTurn t) h y a x m =
      let p : Plan = P.OneTurn t in
      let v : ℕ = s.control.vstart in
      let ends : Core → Outcome =
      λ z. outcome_of b p s.rights (record { ending = finished; passed = 0; after = record { state = z; vstart = 0 } }) in
      ap (outcome_of b p s.rights)
      (one-turn (semantics_of b p) (turn_with b p s.rights n) (point_of b p (with_change c s))
      (rejection-same b p s.rights c (core_of s) v ∙ h) refl)
      ∙ ap ends (one-turn-kept b w c (core_of s) t v
      (y (one-turn-of-legal b s.control t (facts b p s.rights (core_of s) v h).legal)) a x)
      ∙ sym (ap (λ (o : TurnEnd (semantics_of b p)). changed_outcome c (outcome_of b p s.rights o))
      (one-turn (semantics_of b p) (turn_with b p s.rights n) (point_of b p s) h refl))
  plan-turn n (P.Elements e) h y a x m =
      ap (outcome_of b (P.Elements e) s.rights)
      (passes-by (semantics_of b (P.Elements e)) (core_with c) (turn_with b (P.Elements e) s.rights n) (point_of b (P.Elements e) s)
      (elements-unseen e h y a m))

  -- ---- a plan that is rejected

  rejected-turn : (n : ℕ) (p : Plan) (x : Answer) → rejection_at b p s.rights (core_of s) s.control.vstart ≡ some x
      → plan_turn b p n (with_change c s) ≡ changed_outcome c (plan_turn b p n s)
  rejected-turn n p x h =
      ap (outcome_of b p s.rights) (turn-rejected (semantics_of b p) (turn_with b p s.rights n) (point_of b p (with_change c s)) x
      (rejection-same b p s.rights c (core_of s) s.control.vstart ∙ h))
      ∙ sym (ap (λ (o : TurnEnd (semantics_of b p)). changed_outcome c (outcome_of b p s.rights o))
      (turn-rejected (semantics_of b p) (turn_with b p s.rights n) (point_of b p s) x h))

-- ---- every word

pub plan-same : (b : Board) (word : ℕ) (s : State) (c : Change) → AvoidsScalars c (scalars_of (decode_of word))
    → plan_at b word (with_change c s) ≡ plan_at b word s
plan-same b word s c h = plan-kept c s.scalars b s.control (decode_of word) h

module _ (b : Board) (w : Valid b) (word : ℕ) (s : State) where
  abbrev p : Plan
  p = plan_at b word s

  -- what is known of the plan where nothing is rejected
  pub contained-at : rejection_at b p s.rights (core_of s) s.control.vstart ≡ none → PlanContained b s.control p
  contained-at h =
      plan-contained b s.scalars s.control (decode_of word) w
      (possible-apart b s.control (facts b p s.rights (core_of s) s.control.vstart h).acceptable.possible)
      (fits word)

  pub turn-kept : (c : Change) → Untouched b word s c → (n : ℕ)
      → turn_of b word n (with_change c s) ≡ changed_outcome c (turn_of b word n s)
  unfolding turn_of
  turn-kept c u n =
      ap (λ (q : Plan). plan_turn b q n (with_change c s)) (plan-same b word s c u.scalars)
      ∙ go (rejection_at b p s.rights (core_of s) s.control.vstart) refl
    where
      go : (x : Option Answer) → rejection_at b p s.rights (core_of s) s.control.vstart ≡ x
          → plan_turn b p n (with_change c s) ≡ changed_outcome c (plan_turn b p n s)
      go (some x) e = rejected-turn b w.some c s n p x e
      go none e =
          plan-turn b w.some c s n p e (contained-at e) u.registers
          (plan-scalars b s.scalars s.control c (decode_of word) u.scalars) u.memory
