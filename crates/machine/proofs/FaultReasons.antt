-- The fault of an element has a reason; its answer is a trap.
use Rattle.std.specs.Prelude.{Result, Ok, Err, ⊤}
use Prim.Native.Nat.{ℕ}
use mathlib.Core.Path.{◌≡◌, refl, subst}
use mathlib.Core.Bool.{Bool, true, false, not, ◌&&◌}
use mathlib.Core.List.{List}
use lib.ListN.{length}
use Rattle.laws.proofs.Chain.{either}
use Rattle.answer.specs.declared.Answer.{Answer}
use Rattle.control.specs.declared.Board.{Board}
use Rattle.group.specs.Group.{nfields}
use Rattle.access.specs.declared.Fault.{Fault}
use Rattle.access.specs.Access.{misaligned, denied}
use Rattle.access.specs.Reason.{Reason, not_aligned, past_memory, page-closed}
use Rattle.access.proofs.Reason.{reasons}
use Rattle.plan.specs.declared.Action.{Action}
use Rattle.plan.specs.declared.Action.TheVariants as A
use Rattle.plan.specs.declared.Elementwise.{Elementwise}
use Rattle.plan.specs.declared.Plan.{Plan}
use Rattle.plan.specs.declared.Plan.TheVariants as P
use Rattle.turn_theory.specs.Turn.{Effect, inactive, fault, write}
use Rattle.machine.specs.State.{Core}
use Rattle.machine.specs.Effect.{Write, value_of, active_of, stays_at, if_granted, acting_of, effect_of}
use Rattle.machine.specs.Machine.{effect_at}
use Rattle.machine.specs.Demands.{is_trap, changes_nothing}
use Rattle.machine.specs.FaultPages.{ActionReason, PlanReason}

-- the fault of an effect, where it is one, has the property R
abbrev pub Faulting : (Fault → Type 0) → Effect Fault (List Write) → Type 0
Faulting R inactive = Unit {0}
Faulting R (fault f) = R f
Faulting R (write l) = Unit {0}

checked-reason : (R : Fault → Type 0) (v : Result ⊤ Fault) (l : List Write) → ((f : Fault) → v ≡ Err f → R f)
    → Faulting R (if_granted v (write l))
checked-reason R (Ok tt) l h = tt
checked-reason R (Err f) l h = h f refl

module _ (b : Board) (rights : List ℕ) (s : Core) where
  acting-reason : (e : Elementwise) (i : ℕ) (x : Action)
      → Faulting (ActionReason rights (length s.memory) x) (acting_of b rights s e i x)
  unfolding acting_of
  acting-reason e i (A.Compute k) = tt
  acting-reason e i (A.Permute p) =
      either (Faulting (λ f. ⊥)) (stays_at p.op (value_of b.vlenb s.registers e.vs1 i) i) inactive _ (λ t. tt) (λ t. tt)
  acting-reason e i (A.Transfer t) =
      checked-reason _ _ _ (reasons.field rights (length s.memory) t.store _ t.bytes 0 (nfields e.dest))

  pub effect-reason : (p : Plan) (i : ℕ) → Faulting (PlanReason rights (length s.memory) p) (effect_at b p rights s i)
  unfolding effect_of
  effect-reason P.Illegal i = tt
  effect-reason (P.OneTurn t) i = tt
  effect-reason (P.Elements e) i =
      either (Faulting (ActionReason rights (length s.memory) e.action)) (active_of b.vlenb s.registers e.masked i)
      (acting_of b rights s e i e.action) inactive (λ t. acting-reason e i e.action) (λ t. tt)

-- ---- what has a reason traps

-- the answers of faults: none of them changes nothing
abbrev pub trap_only : Answer → Bool
trap_only a = is_trap a && not (changes_nothing a)

misaligned-traps : (store : Bool) → trap_only (misaligned store) ≡ true
misaligned-traps true = refl
misaligned-traps false = refl

denied-traps : (store : Bool) → trap_only (denied store) ≡ true
denied-traps true = refl
denied-traps false = refl

module _ (rights : List ℕ) (memory : ℕ) where
  pub reason-traps : (store : Bool) (n : ℕ) (f : Fault) → Reason rights memory store n f → trap_only f.answer ≡ true
  reason-traps store n _ (not_aligned a e) = misaligned-traps store
  reason-traps store n _ (past_memory a e o) = denied-traps store
  reason-traps store n _ (page-closed a e i r) = denied-traps store

  action-traps : (x : Action) (f : Fault) → ActionReason rights memory x f → trap_only f.answer ≡ true
  action-traps (A.Compute k) f r = absurd r
  action-traps (A.Permute p) f r = absurd r
  action-traps (A.Transfer t) f r = reason-traps t.store t.bytes f r

  plan-traps : (p : Plan) (f : Fault) → PlanReason rights memory p f → trap_only f.answer ≡ true
  plan-traps P.Illegal f r = absurd r
  plan-traps (P.OneTurn t) f r = absurd r
  plan-traps (P.Elements e) f r = action-traps e.action f r

pub fault-traps : (b : Board) (p : Plan) (rights : List ℕ) (s : Core) (i : ℕ) (f : Fault) → effect_at b p rights s i ≡ fault f
    → trap_only f.answer ≡ true
fault-traps b p rights s i f e =
    plan-traps rights (length s.memory) p f
    (subst (Faulting (PlanReason rights (length s.memory) p)) e (effect-reason b rights s p i))
