-- THE PLAN OF EVERY DECODED WORD IS LAWFUL: no element changes what a later one does, and raised rights change only elements that fault.
use Rattle.std.specs.Prelude.{Result, Ok, Err, ⊤}
use Prim.Native.Nat.{ℕ, suc, ◌*◌, ◌≤◌, ◌<◌}
use mathlib.Core.Path.{◌≡◌, refl, ◌∙◌}
use mathlib.Core.Bool.{Bool, true, false, not, ◌&&◌, ◌||◌, cond}
use mathlib.Core.List.{List, [], ◌∷◌}
use mathlib.Core.Option.{Option, none, some}
use native.Mathlib.Omega.{arith}
use lib.ListN.{length, get_or}
use lib.Dec.{ltb, leb}
use borrow.Author.Tests.{eq-eqb, le-leb, le-ltb}
use Rattle.laws.proofs.Apart.{both_right}
use Rattle.answer.specs.declared.Answer.{Answer}
use Rattle.answer.specs.declared.Answer.TheVariants.{Illegal}
use Rattle.control.specs.declared.Board.{Board}
use Rattle.control.specs.declared.Control.{Control}
use Rattle.control.specs.Board.{Valid}
use Rattle.control.specs.Control.{dirty, with_vstart, with_vxsat, typed_well_of, possible_of}
use Rattle.layout.proofs.BytesLaws.{length-with_bytes}
use Rattle.layout.proofs.ElementLaws.{length-with_element}
use Rattle.refusal.specs.Refusal.{rights_fit, refusal_of}
use Rattle.refusal.proofs.RefusalLaws.{right_le, Acceptable, accepted-facts}
use Rattle.plan.specs.declared.Elementwise.{Elementwise}
use Rattle.plan.specs.declared.OneTurn.TheVariants as O
use Rattle.plan.specs.declared.Plan.{Plan}
use Rattle.plan.specs.declared.Plan.TheVariants as P
use Rattle.legality.specs.Legal.{startable, operands_fit, is_there, elements_legal, one_turn_legal, kind_legal, legal_of}
use Rattle.legality.proofs.LegalLaws.{elements-of-legal}
use Rattle.turn_theory.specs.Turn.{write, faults, uncut_allowance}
use Rattle.turn_theory.specs.Claims.{Lawful}
use Rattle.machine.specs.State.{Core}
use Rattle.machine.specs.Effect.{Write, to_registers, to_memory, saturating, put_of, put_all}
use Rattle.machine.specs.Machine.{end_of, effect_at, result_at, or_illegal, rejection_at, Opened, semantics_of}
use Rattle.machine.proofs.PlanFacts.{PlanSound}
use Rattle.machine.proofs.EffectLaws.{effect-opened, all_keep, effect-stable}

-- ---- what is known where nothing is rejected, and that it suffices

pub record Facts (b : Board) (p : Plan) (r : List ℕ) (s : Core) (v : ℕ) : Type 0 where
  pub acceptable : Acceptable b (length s.registers) (length s.scalars) (length s.memory) r (with_vstart s.control v)
  pub legal : legal_of b (with_vstart s.control v) p ≡ true

accepted-first : (v : Result ⊤ Answer) (o : Option Answer) → or_illegal v o ≡ none → v ≡ Ok tt
accepted-first (Ok tt) o h = refl
accepted-first (Err a) o h = cc

legal-then : (v : Result ⊤ Answer) (t : Bool) → or_illegal v (cond t none (some Illegal)) ≡ none → t ≡ true
legal-then (Ok tt) true h = refl
legal-then (Ok tt) false h = cc
legal-then (Err a) t h = cc

pub facts : (b : Board) (p : Plan) (r : List ℕ) (s : Core) (v : ℕ) → rejection_at b p r s v ≡ none → Facts b p r s v
unfolding rejection_at
facts b p r s v h =
    record { acceptable = accepted-facts b _ _ _ r _ (accepted-first _ _ h); legal = legal-then (refusal_of b _ _ _ r _) _ h }

acceptable-accepted : (b : Board) (registers scalars memory : ℕ) (r : List ℕ) (c : Control) → Acceptable b registers scalars memory r c
    → refusal_of b registers scalars memory r c ≡ Ok tt
unfolding refusal_of
acceptable-accepted b registers scalars memory r c a =
    rw (
      eq-eqb _ _ a.registers-length,
      eq-eqb _ _ a.scalars-length,
      le-ltb _ _ a.memory-length,
      eq-eqb _ _ a.rights-length,
      a.rights-fit,
      a.possible,
    )

facts-legal : (b : Board) (p : Plan) (r : List ℕ) (s : Core) (v : ℕ) → Facts b p r s v → rejection_at b p r s v ≡ none
unfolding rejection_at
facts-legal b p r s v f = rw (acceptable-accepted b _ _ _ r _ f.acceptable, f.legal)

-- ---- a legal plan stays legal: after a write, and under raised rights

-- legality does not go by vxsat
legal-vxsat : (b : Board) (c : Control) (sat : ℕ) (p : Plan) → legal_of b (with_vxsat c sat) p ≡ legal_of b c p
unfolding legal_of kind_legal elements_legal one_turn_legal
legal-vxsat b c sat P.Illegal = refl
legal-vxsat b c sat (P.OneTurn (O.Setting t)) = refl
legal-vxsat b c sat (P.OneTurn (O.Mask m)) = refl
legal-vxsat b c sat (P.OneTurn (O.Reduction r)) = refl
legal-vxsat b c sat (P.OneTurn (O.Packing p)) = refl
legal-vxsat b c sat (P.OneTurn (O.ScalarMove m)) = refl
legal-vxsat b c sat (P.Elements e) = refl

fourth-true : (p q r t u : Bool) → (p && (q && (r && (t && u)))) ≡ true → (p && (q && (r && u))) ≡ true
fourth-true true true true true u h = h
fourth-true true true true false u h = cc
fourth-true true true false t u h = h
fourth-true true false r t u h = h
fourth-true false q r t u h = h

possible-saturating : (b : Board) (c : Control) (sat : Bool) → possible_of b c ≡ true → possible_of b (saturating sat c) ≡ true
unfolding possible_of typed_well_of
possible-saturating b c false h = h
possible-saturating b c true h =
    fourth-true (typed_well_of b c) (ltb c.vstart (8 * b.vlenb)) (leb c.vxrm 3) (leb c.vxsat 1) (leb c.vs dirty) h

-- with other rights and another control record that can be
acceptable-with : (b : Board) (registers scalars memory : ℕ) (r r' : List ℕ) (c c' : Control) → length r' ≡ length r → rights_fit r' ≡ true
    → possible_of b c' ≡ true → Acceptable b registers scalars memory r c → Acceptable b registers scalars memory r' c'
acceptable-with b registers scalars memory r r' c c' e f p a =
    record {
      registers-length = a.registers-length;
      scalars-length = a.scalars-length;
      memory-length = a.memory-length;
      rights-length = e ∙ a.rights-length;
      rights-fit = f;
      possible = p;
    }

put-facts : (b : Board) (p : Plan) (r : List ℕ) (w : Write) (s : Core) (v : ℕ) → Facts b p r s v → Facts b p r (put_of b.vlenb w s) v
unfolding put_of
put-facts b p r (to_registers g k x) s v f =
    let c : Control = with_vstart s.control v in
    let a = f.acceptable in
    record {
      acceptable =
          rw (length-with_element b.vlenb s.registers g.reg g.eew k x.value)
          (acceptable-with b _ _ _ r r c _ refl a.rights-fit (possible-saturating b c x.saturates a.possible) a);
      legal = legal-vxsat b c (saturating x.saturates c).vxsat p ∙ f.legal;
    }
put-facts b p r (to_memory a n x) s v f =
    record { acceptable = rw (length-with_bytes s.memory a n x) f.acceptable; legal = f.legal }

rights-of : (r : List ℕ) → ((k : ℕ) → get_or r k 0 ≤ 2) → rights_fit r ≡ true
rights-of [] h = refl
rights-of (x ∷ xs) h = rw (le-leb x 2 (h 0)) (rights-of xs (λ k. h (suc k)))

opened-facts : (b : Board) (p : Plan) (r r' : List ℕ) (s : Core) (v : ℕ) → Opened r r' → Facts b p r s v → Facts b p r' s v
opened-facts b p r r' s v o f =
    let a = f.acceptable in
    let fit = rights-of r' (λ k. omega (arith, right_le r k a.rights-fit, o.at_most k)) in
    record { acceptable = acceptable-with b _ _ _ r r' _ _ o.as_many fit a.possible a; legal = f.legal }

-- ---- the laws

pub opened-refl : (r : List ℕ) → Opened r r
opened-refl r = record { as_many = refl; at_least = λ k. omega arith; at_most = λ k. omega arith }

pub elements-fit : (b : Board) (c : Control) (e : Elementwise) → elements_legal b c e ≡ true → operands_fit b.elen e ≡ true
unfolding elements_legal
elements-fit b c e h = both_right (is_there e.action) _ (both_right (not e.typed || startable b c) _ h)

module _ (b : Board) (w : Valid b) where
  stable : (p : Plan) → PlanSound b p → (r : List ℕ) (s : Core) (v j k : ℕ) (u : List Write) → Facts b p r s v → j < k → k < end_of p
      → effect_at b p r s j ≡ write u → effect_at b p r (put_all b.vlenb u s) k ≡ effect_at b p r s k
  stable P.Illegal d r s v j k u f l m h = refl
  stable (P.OneTurn t) d r s v j k u f l m h = refl
  stable (P.Elements e) d r s v j k u f l m h =
      let c : Control = with_vstart s.control v in
      effect-stable b r e j k l m s u (d.undisturbed (elements-fit b c e (elements-of-legal b c e f.legal)) (omega arith)) h

  raised : (p : Plan) (r r' : List ℕ) (s : Core) (k : ℕ) → Opened r r' → faults (effect_at b p r s k) ≡ false
      → effect_at b p r' s k ≡ effect_at b p r s k
  raised P.Illegal r r' s k o h = refl
  raised (P.OneTurn t) r r' s k o h = refl
  raised (P.Elements e) r r' s k o h = effect-opened b r r' s e k o h

  -- an instruction of elements does nothing when it finishes, whatever vstart was
  finish-any : (p : Plan) (s : Core) (v u : ℕ) → 0 < end_of p → result_at b p v s ≡ result_at b p u s
  finish-any P.Illegal s v u l = refl
  finish-any (P.OneTurn t) s v u l = absurd (omega arith)
  finish-any (P.Elements e) s v u l = refl

  bounded : (p : Plan) → PlanSound b p → end_of p ≤ uncut_allowance
  bounded P.Illegal d = omega arith
  bounded (P.OneTurn t) d = omega arith
  bounded (P.Elements e) d = omega (arith, d.end, w.most)

  pub lawful : (p : Plan) → PlanSound b p → Lawful (semantics_of b p)
  lawful p d =
      record {
        stable = λ r s v j k u h. stable p d r s v j k u (facts b p r s v h);
        put_count = λ u s. refl;
        put-legal = λ r u s v h. facts-legal b p r (put_all b.vlenb u s) v
            (all_keep b.vlenb (λ c. Facts b p r c v) (λ w c. put-facts b p r w c v) u s (facts b p r s v h));
        raised = raised p;
        raised-legal = λ r r' s v o h. facts-legal b p r' s v (opened-facts b p r r' s v o (facts b p r s v h));
        bounded = λ r s v h. bounded p d;
        finish-any = finish-any p;
        opens-trans = λ r r' r'' o q. record {
          as_many = q.as_many ∙ o.as_many;
          at_least = λ k. omega (arith, o.at_least k, q.at_least k);
          at_most = λ k. omega (arith, o.at_most k, q.at_most k);
        };
        opens-refl = opened-refl;
      }
