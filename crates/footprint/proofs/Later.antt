-- What is left of an instruction addresses no other bytes than the whole of it did: its later elements are active as before and lie where
-- they did, after a turn that does not finish, and after a change that is not touched.
use Prim.Native.Nat.{ℕ, zero, suc, ◌+◌, ◌-◌, ◌≤◌, ◌<◌}
use mathlib.Core.Path.{◌≡◌, refl, sym, ap, ap₂, ◌∙◌, subst}
use mathlib.Core.Bool.{Bool, true, false, ◌&&◌}
use mathlib.Core.List.{List, ◌++◌}
use mathlib.Core.Option.{none}
use native.Mathlib.Omega.{arith}
use lib.Dec.{ltb, leb, eqb}
use Rattle.control.specs.declared.Board.{Board}
use Rattle.control.specs.declared.Control.{Control}
use Rattle.control.specs.Control.{with_vstart}
use Rattle.group.specs.Group.{nfields}
use Rattle.access.specs.declared.Fault.{Fault}
use Rattle.access.specs.Access.{field_address}
use Rattle.plan.specs.declared.Read.{Read}
use Rattle.plan.specs.declared.Read.TheVariants as R
use Rattle.plan.specs.declared.Action.{Action}
use Rattle.plan.specs.declared.Action.TheVariants as A
use Rattle.plan.specs.declared.Elementwise.{Elementwise}
use Rattle.plan.specs.declared.Transfer.{Transfer}
use Rattle.plan.specs.declared.Plan.{Plan}
use Rattle.plan.specs.declared.Plan.TheVariants as P
use Rattle.plan.specs.Sources.{sources_of}
use Rattle.legality.specs.Legal.{writes_registers}
use Rattle.legality.proofs.LegalLaws.{elements-of-legal}
use Rattle.turn_theory.specs.Turn.{Effect, inactive, fault, write, finished, Semantics, Point, Turn, apply, written, turn}
use Rattle.turn_theory.proofs.Laws.{turn-cases}
use Rattle.machine.specs.State.{State, Core}
use Rattle.machine.specs.Effect.{Write, to_registers, to_memory, put_of, put_all, value_of, active_of, element_address, effect_of}
use Rattle.machine.specs.Machine.{rejection_at, semantics_of, plan_at}
use Rattle.machine.proofs.PlanFacts.{Kept, Undisturbed, Sound, PlanSound}
use Rattle.machine.proofs.EffectLaws.{Wrote, nothing, in_registers, in_memory, effect-wrote}
use Rattle.machine.proofs.Lawful.{facts, elements-fit}
use Rattle.footprint.specs.Footprint.{any_from, destinations_of, element_addresses, transfer_addresses, action_addresses, addresses_byte}
use Rattle.footprint.specs.Changes.{Change, register_byte, scalar_register, memory_byte}
use Rattle.footprint.proofs.Spared.{from_each, from-none, Avoids}
use Rattle.footprint.proofs.Untouched.{AvoidsMemory, Untouched}

-- ---- later elements

-- from vstart v up, elements are active in the file f' as in f, and find the same offset
pub record Later (vlenb : ℕ) (e : Elementwise) (v : ℕ) (f f' : List ℕ) : Type 0 where
  pub active : (i : ℕ) → v ≤ i → i < e.end → active_of vlenb f' e.masked i ≡ active_of vlenb f e.masked i
  pub offset : (i : ℕ) → v ≤ i → i < e.end → value_of vlenb f' e.vs2 i ≡ value_of vlenb f e.vs2 i

abbrev pub PlanLater : ℕ → Plan → ℕ → List ℕ → List ℕ → Type 0
PlanLater vlenb P.Illegal v f f' = Unit {0}
PlanLater vlenb (P.OneTurn t) v f f' = Unit {0}
PlanLater vlenb (P.Elements e) v f f' = Later vlenb e v f f'

pub same-later : (vlenb : ℕ) (p : Plan) (v : ℕ) (f : List ℕ) → PlanLater vlenb p v f f
same-later vlenb P.Illegal v f = tt
same-later vlenb (P.OneTurn t) v f = tt
same-later vlenb (P.Elements e) v f = record { active = λ i l u. refl; offset = λ i l u. refl }

-- ---- then they address what they addressed

module _ (b : Board) (s s' : State) (l : s.control.vstart ≤ s'.control.vstart) where
  transfer-later : (e : Elementwise) (t : Transfer) (a : ℕ) → Later b.vlenb e s'.control.vstart s.registers s'.registers
      → transfer_addresses b s e t a ≡ false → transfer_addresses b s' e t a ≡ false
  transfer-later e t a y h =
      from-none (test s') s'.control.vstart (e.end - s'.control.vstart)
      (λ i m u. same i m (omega arith)
      ∙ from_each (test s) s.control.vstart (e.end - s.control.vstart) h i (omega arith) (omega arith))
    where
      test : State → ℕ → Bool
      test x i = active_of b.vlenb x.registers e.masked i && element_addresses b x e t a i

      by-offset : ℕ → ℕ → Bool
      by-offset i o =
          let at : ℕ → ℕ = field_address (element_address t i o) t.bytes in
          any_from (λ k. leb (at k) a && ltb a (at k + t.bytes)) 0 (nfields e.dest)

      same : (i : ℕ) → s'.control.vstart ≤ i → i < e.end → test s' i ≡ test s i
      same i m u = ap₂ ◌&&◌ (y.active i m u) (ap (by-offset i) (y.offset i m u))

  byte-later : (p : Plan) (a : ℕ) → PlanLater b.vlenb p s'.control.vstart s.registers s'.registers
      → addresses_byte b s p a ≡ false → addresses_byte b s' p a ≡ false
  unfolding action_addresses
  byte-later P.Illegal a y h = refl
  byte-later (P.OneTurn t) a y h = refl
  byte-later (P.Elements e) a y h = go e.action h where
    go : (act : Action) → action_addresses b s e act a ≡ false → action_addresses b s' e act a ≡ false
    go (A.Compute k) q = refl
    go (A.Permute k) q = refl
    go (A.Transfer t) q = transfer-later e t a y q

  memory-later : (c : Change) (p : Plan) → PlanLater b.vlenb p s'.control.vstart s.registers s'.registers
      → AvoidsMemory c (addresses_byte b s p) → AvoidsMemory c (addresses_byte b s' p)
  memory-later (register_byte k x) p y h = tt
  memory-later (scalar_register r x) p y h = tt
  memory-later (memory_byte a x) p y h = byte-later p a y h

  pub untouched-later : (word : ℕ) (c : Change) → plan_at b word s' ≡ plan_at b word s
      → PlanLater b.vlenb (plan_at b word s) s'.control.vstart s.registers s'.registers
      → Untouched b word s c → Untouched b word s' c
  untouched-later word c e y u = record {
    registers = subst (λ (p : Plan). Avoids b.vlenb c (sources_of p ++ destinations_of p)) (sym e) u.registers;
    scalars = u.scalars;
    memory = subst (λ (p : Plan). AvoidsMemory c (addresses_byte b s' p)) (sym e) (memory-later c (plan_at b word s) y u.memory);
  }

-- ---- after a turn that does not finish

module _ (b : Board) (e : Elementwise) (x : Read) (k : writes_registers e.action ≡ true → Kept b.vlenb e.end e.dest x) where
  abbrev J : Semantics
  J = semantics_of b (P.Elements e)

  abbrev value_in : Core → ℕ → ℕ
  value_in s i = value_of b.vlenb s.registers x i

  -- what element j writes leaves what a later element i reads
  wrote_kept : (j i : ℕ) → j < i → i < e.end → (t : Bool) → writes_registers e.action ≡ t → (l : List Write) → Wrote e.dest j t l
      → (s : Core) → value_in (put_all b.vlenb l s) i ≡ value_in s i
  unfolding put_all
  wrote_kept j i l u t p _ (nothing _) s = refl
  wrote_kept j i l u _ p _ (in_registers f g y ws n q o w) s =
      wrote_kept j i l u true p ws w (put_of b.vlenb (to_registers g j y) s)
      ∙ (unfold put_of in rw (q, o) (k p s.registers f j i y.value n l u))
  wrote_kept j i l u _ p _ (in_memory a n y ws w) s =
      wrote_kept j i l u false p ws w (put_of b.vlenb (to_memory a n y) s) ∙ (unfold put_of in refl)

  apply-kept : (r : List ℕ) (s₀ : Core) (j i : ℕ) → j < i → i < e.end → (s : Core) (o : Effect Fault (List Write))
      → effect_of b r s₀ e j ≡ o → value_in (apply J o s) i ≡ value_in s i
  apply-kept r s₀ j i l u s inactive q = refl
  apply-kept r s₀ j i l u s (fault f) q = refl
  apply-kept r s₀ j i l u s (write ws) q =
      wrote_kept j i l u (writes_registers e.action) refl ws (effect-wrote b r s₀ e j ws q) s

  written-kept : (r : List ℕ) (s₀ : Core) (j n i : ℕ) → j + n ≤ i → i < e.end → (s : Core) → value_in (written J r s₀ j n s) i ≡ value_in s i
  unfolding written
  written-kept r s₀ j zero i l u s = refl
  written-kept r s₀ j (suc n) i l u s =
      written-kept r s₀ (suc j) n i (omega arith) u (apply J (effect_of b r s₀ e j) s)
      ∙ apply-kept r s₀ j i (omega arith) u s (effect_of b r s₀ e j) refl

module _ (b : Board) where
  passing-later : (e : Elementwise) → Sound b e → (r : List ℕ) (s : Core) (v n : ℕ) → rejection_at b (P.Elements e) r s v ≡ none
      → Later b.vlenb e (v + n) s.registers (written (semantics_of b (P.Elements e)) r s v n s).registers
  unfolding value_of
  passing-later e d r s v n h = record {
    active = λ i l u. active e.masked i (λ q. written-kept b e (R.Bit 0) (λ p. (undisturbed i u p).mask q) r s v n i l u s);
    offset = λ i l u. written-kept b e e.vs2 (λ p. (undisturbed i u p).vs2) r s v n i l u s;
  }
    where
      c : Control
      c = with_vstart s.control v

      undisturbed : (i : ℕ) → i < e.end → writes_registers e.action ≡ true → Undisturbed b.vlenb e
      undisturbed i u =
          d.undisturbed (elements-fit b c e (elements-of-legal b c e (facts b (P.Elements e) r s v h).legal)) (omega arith)

      after : List ℕ
      after = (written (semantics_of b (P.Elements e)) r s v n s).registers

      active : (masked : Bool) (i : ℕ)
          → (masked ≡ true → value_of b.vlenb after (R.Bit 0) i ≡ value_of b.vlenb s.registers (R.Bit 0) i)
          → active_of b.vlenb after masked i ≡ active_of b.vlenb s.registers masked i
      active true i f = ap (λ (y : ℕ). eqb y 1) (f refl)
      active false i f = refl

  plan-passing : (p : Plan) → PlanSound b p → (r : List ℕ) (s : Core) (v n : ℕ) → rejection_at b p r s v ≡ none
      → PlanLater b.vlenb p (v + n) s.registers (written (semantics_of b p) r s v n s).registers
  plan-passing P.Illegal d r s v n h = tt
  plan-passing (P.OneTurn t) d r s v n h = tt
  plan-passing (P.Elements e) d r s v n h = passing-later e d r s v n h

  -- where a turn left off
  pub record Onward (p : Plan) (q q' : Point (semantics_of b p)) : Type 0 where
    pub vstart : q.vstart ≤ q'.vstart
    pub later : PlanLater b.vlenb p q'.vstart q.state.registers q'.state.registers

  pub turn-onward : (p : Plan) → PlanSound b p → (t : Turn (semantics_of b p)) (q : Point (semantics_of b p))
      → ((turn (semantics_of b p) t q).ending ≡ finished → ⊥) → Onward p q (turn (semantics_of b p) t q).after
  turn-onward p d t q = turn-cases (semantics_of b p) t q (λ o. (o.ending ≡ finished → ⊥) → Onward p q o.after) (record {
    on-rejected = λ x e u. record { vstart = omega arith; later = same-later b.vlenb p q.vstart q.state.registers };
    on-trapped = λ x k h l f e u. record { vstart = omega arith; later = plan-passing p d t.rights q.state q.vstart k h };
    on-paused = λ k h l e f u. record { vstart = omega arith; later = plan-passing p d t.rights q.state q.vstart k h };
    on-finished = λ h l u. absurd (u refl);
  })
