-- What one element does: an element that is undisturbed does the same after an earlier one has written, and raised rights only lift faults.
use Rattle.std.specs.Prelude.{Result, Ok, Err, ⊤}
use Prim.Native.Nat.{ℕ, zero, suc, ◌+◌, ◌-◌, ◌≤◌, ◌<◌}
use mathlib.Core.Path.{◌≡◌, refl, sym, ap, ap₂, ◌∙◌, subst}
use mathlib.Core.Bool.{Bool, true, false, not, cond}
use mathlib.Core.Logic.{◌⊎◌, inl, inr}
use mathlib.Core.List.{List, [], ◌∷◌}
use native.Mathlib.Omega.{arith}
use lib.ListN.{length}
use lib.Dec.{T, ltb, eqb}
use borrow.Author.Tests.{ltb-true}
use Rattle.fixed.specs.declared.Element.{Element}
use Rattle.control.specs.declared.Board.{Board}
use Rattle.decode.specs.declared.PermutationOp.{PermutationOp}
use Rattle.decode.specs.declared.PermutationOp.TheVariants.{Vid, Vslideup, Vslidedown, Vslide1up, Vslide1down, Vrgather, Vrgatherei16}
use Rattle.layout.proofs.BytesLaws.{length-with_bytes}
use Rattle.group.specs.declared.Group.{Group}
use Rattle.group.specs.Group.{nfields, field_group}
use Rattle.access.specs.declared.Fault.{Fault}
use Rattle.access.specs.Access.{page_of, access_of, field_address, fields_access}
use Rattle.access.proofs.AccessLaws.{facts-granted, granted-facts, granted-first, granted-next}
use Rattle.plan.specs.declared.Read.TheVariants as R
use Rattle.plan.specs.declared.Action.{Action}
use Rattle.plan.specs.declared.Action.TheVariants as A
use Rattle.plan.specs.declared.Permute.{Permute}
use Rattle.plan.specs.declared.Elementwise.{Elementwise}
use Rattle.legality.specs.Legal.{writes_registers, strictly}
use Rattle.turn_theory.specs.Turn.{Effect, inactive, fault, write, faults}
use Rattle.machine.specs.State.{Core}
use Rattle.machine.specs.Effect.{Write, to_registers, to_memory, put_of, put_all, value_of, active_of, element_address, if_granted}
use Rattle.machine.specs.Effect.{vs2_at, stays_at, permuted_of, each_field, field_write, transferring, acting_of, effect_of}
use Rattle.machine.specs.Machine.{Opened}
use Rattle.machine.proofs.PlanFacts.{MovedKept, Undisturbed}

-- ---- effects are one thing or another

fault≢write : (x : Fault) (l : List Write) → ◌≡◌ {A = Effect Fault (List Write)} (fault x) (write l) → ⊥
fault≢write x l h = let z : ◌≡◌ {A = ℕ} 0 1 = cc in omega arith

inactive≢write : (l : List Write) → ◌≡◌ {A = Effect Fault (List Write)} inactive (write l) → ⊥
inactive≢write l h = let z : ◌≡◌ {A = ℕ} 0 1 = cc in omega arith

write_same : (l m : List Write) → ◌≡◌ {A = Effect Fault (List Write)} (write l) (write m) → m ≡ l
write_same l m h = cc

-- ---- access

-- an access that writes does what it is to do
granted-write : (v : Result ⊤ Fault) (e : Effect Fault (List Write)) (l : List Write) → if_granted v e ≡ write l → e ≡ write l
granted-write (Ok tt) e l h = h
granted-write (Err f) e l h = absurd (fault≢write f l h)

access-opened : (r r' : List ℕ) (memory : ℕ) (store : Bool) (a n : ℕ) → Opened r r' → access_of r memory store a n ≡ Ok tt
    → access_of r' memory store a n ≡ Ok tt
access-opened r r' memory store a n o h =
    let g = granted-facts r memory store a n h in
    facts-granted r' memory store a n
    (record { aligned = g.aligned; inside = g.inside; right = omega (arith, g.right, o.at_least (page_of a)) })

-- fields that are granted are granted under raised rights
fields-opened : (r r' : List ℕ) (memory : ℕ) (store : Bool) (a n k others : ℕ) → Opened r r'
    → fields_access r memory store a n k others ≡ Ok tt → fields_access r' memory store a n k others ≡ Ok tt
unfolding fields_access
fields-opened r r' memory store a n k zero o h = h
fields-opened r r' memory store a n k (suc others) o h =
    let v : Result ⊤ Fault = access_of r memory store (field_address a n k) n in
    rw (access-opened r r' memory store (field_address a n k) n o (granted-first v _ h))
    (fields-opened r r' memory store a n (suc k) others o (granted-next v _ h))

-- an access that does not fault does the same under raised rights
granted-opened : (r r' : List ℕ) (memory : ℕ) (store : Bool) (a n others : ℕ) (e : Effect Fault (List Write)) → Opened r r'
    → faults (if_granted (fields_access r memory store a n 0 others) e) ≡ false
    → if_granted (fields_access r' memory store a n 0 others) e ≡ if_granted (fields_access r memory store a n 0 others) e
granted-opened r r' memory store a n others e o = go (fields_access r memory store a n 0 others) refl
  where
    go : (v : Result ⊤ Fault) → fields_access r memory store a n 0 others ≡ v → faults (if_granted v e) ≡ false
        → if_granted (fields_access r' memory store a n 0 others) e ≡ if_granted v e
    go (Ok tt) q h = ap (λ (v : Result ⊤ Fault). if_granted v e) (fields-opened r r' memory store a n 0 others o q)
    go (Err f) q h = absurd (subst T h tt)

-- ---- raised rights

acting-opened : (b : Board) (r r' : List ℕ) (s : Core) (e : Elementwise) (i : ℕ) (act : Action) → Opened r r'
    → faults (acting_of b r s e i act) ≡ false → acting_of b r' s e i act ≡ acting_of b r s e i act
unfolding acting_of
acting-opened b r r' s e i (A.Compute k) o h = refl
acting-opened b r r' s e i (A.Permute p) o h = refl
acting-opened b r r' s e i (A.Transfer t) o h = granted-opened r r' _ t.store _ t.bytes (nfields e.dest) _ o h

pub effect-opened : (b : Board) (r r' : List ℕ) (s : Core) (e : Elementwise) (i : ℕ) → Opened r r'
    → faults (effect_of b r s e i) ≡ false → effect_of b r' s e i ≡ effect_of b r s e i
unfolding effect_of
effect-opened b r r' s e i o = go (active_of b.vlenb s.registers e.masked i)
  where
    go : (t : Bool) → faults (cond t (acting_of b r s e i e.action) inactive) ≡ false
        → cond t (acting_of b r' s e i e.action) inactive ≡ cond t (acting_of b r s e i e.action) inactive
    go true h = acting-opened b r r' s e i e.action o h
    go false h = refl

-- ---- what each write keeps, all that an element writes keep

pub all_keep : (vlenb : ℕ) (P : Core → Type 0) → ((w : Write) (s : Core) → P s → P (put_of vlenb w s)) → (l : List Write) (s : Core) → P s
    → P (put_all vlenb l s)
unfolding put_all
all_keep vlenb P f [] s h = h
all_keep vlenb P f (w ∷ l) s h = all_keep vlenb P f l (put_of vlenb w s) (f w s h)

-- ---- what an element may write: its element of fields of the destination, or memory where it is a store

pub data Wrote (d : Group) (j : ℕ) : Bool → List Write → Type 0 where
  nothing : (t : Bool) → Wrote d j t []
  in_registers : (k : ℕ) (g : Group) (x : Element) (l : List Write) → k ≤ d.nf → g.reg ≡ (field_group d k).reg → g.eew ≡ d.eew
      → Wrote d j true l → Wrote d j true (to_registers g j x ∷ l)
  in_memory : (a n x : ℕ) (l : List Write) → Wrote d j false l → Wrote d j false (to_memory a n x ∷ l)

module _ (vlenb : ℕ) (file memory : List ℕ) (d : Group) (n j a : ℕ) where
  fields-wrote : (store : Bool) (k others : ℕ) → k + others ≤ nfields d
      → Wrote d j (not store) (each_field (field_write vlenb file memory store d n j a) k others)
  unfolding each_field
  fields-wrote store k zero h = nothing (not store)
  fields-wrote true k (suc others) h = in_memory _ n _ _ (fields-wrote true (suc k) others (omega arith))
  fields-wrote false k (suc others) h = in_registers k _ _ _ (omega arith) refl refl (fields-wrote false (suc k) others (omega arith))

-- one write to the destination, or none
one-wrote : (d : Group) (j : ℕ) (x : Element) (l : List Write)
    → ◌≡◌ {A = Effect Fault (List Write)} (write (to_registers d j x ∷ [])) (write l) → Wrote d j true l
one-wrote d j x l h = rw (write_same _ l h) (in_registers 0 d x [] (omega arith) (omega arith) refl (nothing true))

moved-wrote : (d : Group) (j : ℕ) (x : Element) (l : List Write) (t : Bool)
    → ◌≡◌ {A = Effect Fault (List Write)} (cond t inactive (write (to_registers d j x ∷ []))) (write l) → Wrote d j true l
moved-wrote d j x l true h = absurd (inactive≢write l h)
moved-wrote d j x l false h = one-wrote d j x l h

acting-wrote : (b : Board) (r : List ℕ) (s : Core) (e : Elementwise) (j : ℕ) (l : List Write) (act : Action)
    → acting_of b r s e j act ≡ write l → Wrote e.dest j (writes_registers act) l
unfolding acting_of
acting-wrote b r s e j l (A.Compute k) h =
    one-wrote e.dest j _ l h
acting-wrote b r s e j l (A.Permute p) h =
    moved-wrote e.dest j _ l (stays_at p.op (value_of b.vlenb s.registers e.vs1 j) j) h
acting-wrote b r s e j l (A.Transfer t) h =
    let a : ℕ = element_address t j (value_of b.vlenb s.registers e.vs2 j) in
    rw (write_same _ l (granted-write (fields_access r (length s.memory) t.store a t.bytes 0 (nfields e.dest)) _ l h))
    (fields-wrote b.vlenb s.registers s.memory e.dest t.bytes j a t.store 0 (nfields e.dest) (omega arith))

pub effect-wrote : (b : Board) (r : List ℕ) (s : Core) (e : Elementwise) (j : ℕ) (l : List Write) → effect_of b r s e j ≡ write l
    → Wrote e.dest j (writes_registers e.action) l
unfolding effect_of
effect-wrote b r s e j l = go (active_of b.vlenb s.registers e.masked j)
  where
    go : (t : Bool) → cond t (acting_of b r s e j e.action) inactive ≡ write l → Wrote e.dest j (writes_registers e.action) l
    go true h = acting-wrote b r s e j l e.action h
    go false h = absurd (inactive≢write l h)

-- ---- what a permutation makes of the elements of vs2

-- two ways to read vs2 that agree where element i may read it give the same
pub permuted-same : (op : PermutationOp) (sew vl : ℕ) (f g : ℕ → ℕ) (x i : ℕ) → ((k : ℕ) → (strictly op ≡ true) ⊎ (i ≤ k) → f k ≡ g k)
    → permuted_of op sew vl f x i ≡ permuted_of op sew vl g x i
permuted-same Vid sew vl f g x i h = refl
permuted-same Vslideup sew vl f g x i h = h _ (inl refl)
permuted-same Vslidedown sew vl f g x i h = h _ (inr (omega arith))
permuted-same Vslide1up sew vl f g x i h = rw (h (i - 1) (inl refl))
permuted-same Vslide1down sew vl f g x i h = rw (h (i + 1) (inr (omega arith)))
permuted-same Vrgather sew vl f g x i h = h _ (inl refl)
permuted-same Vrgatherei16 sew vl f g x i h = h _ (inl refl)

-- ---- a later element after that

module _ (b : Board) (r : List ℕ) (e : Elementwise) (j i : ℕ) (l : j < i) (m : i < e.end) where
  -- after one write to registers: a load loads from memory
  module _ (s : Core) (k : ℕ) (x : Element) (n : k ≤ e.dest.nf) (u : Undisturbed b.vlenb e) where
    abbrev after : Core
    after = put_of b.vlenb (to_registers (field_group e.dest k) j x) s

    active-registers : active_of b.vlenb after.registers e.masked i ≡ active_of b.vlenb s.registers e.masked i
    unfolding put_of
    active-registers = go e.masked (λ q. u.mask q s.registers k j i x.value n l m)
      where
        go : (t : Bool) → (t ≡ true → value_of b.vlenb after.registers (R.Bit 0) i ≡ value_of b.vlenb s.registers (R.Bit 0) i)
            → active_of b.vlenb after.registers t i ≡ active_of b.vlenb s.registers t i
        go false f = refl
        go true f = unfold value_of in ap (λ (y : ℕ). eqb y 1) (f refl)

    loads-same : (store : Bool) (z a : ℕ) → not store ≡ true
        → transferring b.vlenb r after store e.dest z i a ≡ transferring b.vlenb r s store e.dest z i a
    unfolding put_of
    loads-same true z a p = absurd (subst T (sym p) tt)
    loads-same false z a p = refl

    -- vs2 where element i of a permutation may read it
    vs2-same : (p : Permute) → MovedKept b.vlenb e (A.Permute p) → (z : ℕ) → (strictly p.op ≡ true) ⊎ (i ≤ z)
        → vs2_at b.vlenb after.registers e.vs2 p.vlmax z ≡ vs2_at b.vlenb s.registers e.vs2 p.vlmax z
    unfolding put_of
    vs2-same p h z q = go (ltb z p.vlmax) refl
      where
        go : (t : Bool) → ltb z p.vlmax ≡ t
            → cond t (value_of b.vlenb after.registers e.vs2 z) 0 ≡ cond t (value_of b.vlenb s.registers e.vs2 z) 0
        go true t = h s.registers k j i z x.value n l m (ltb-true z p.vlmax t, q)
        go false t = refl

    acting-registers : (act : Action) → writes_registers act ≡ true → MovedKept b.vlenb e act
        → acting_of b r after e i act ≡ acting_of b r s e i act
    unfolding acting_of
    acting-registers (A.Compute c) t h = unfold put_of in
        let file : List ℕ = s.registers in
        let v : ℕ = x.value in
        rw (u.vs2 file k j i v n l m, u.vs1 file k j i v n l m, u.vd file k j i v n l m, u.v0 file k j i v n l m)
    acting-registers (A.Permute p) t h = unfold put_of in
        rw (
          u.vs1 s.registers k j i x.value n l m,
          permuted-same p.op p.sew e.end _ _ (value_of b.vlenb s.registers e.vs1 i) i (vs2-same p h),
        )
    acting-registers (A.Transfer t) p h =
        loads-same t.store t.bytes _ p
        ∙ ap (λ (o : ℕ). transferring b.vlenb r s t.store e.dest t.bytes i (element_address t i o))
        (unfold put_of in u.vs2 s.registers k j i x.value n l m)

    registers-stable : writes_registers e.action ≡ true → effect_of b r after e i ≡ effect_of b r s e i
    unfolding effect_of
    registers-stable p =
        ap₂ (λ (t : Bool) (f : Effect Fault (List Write)). cond t f inactive) active-registers (acting-registers e.action p u.moved)

  -- after one to memory: a store stores from registers
  module _ (s : Core) (a n x : ℕ) where
    stores_same : (store : Bool) (z o : ℕ) → not store ≡ false
        → transferring b.vlenb r (put_of b.vlenb (to_memory a n x) s) store e.dest z i o
        ≡ transferring b.vlenb r s store e.dest z i o
    unfolding put_of
    stores_same true z o p = rw (length-with_bytes s.memory a n x)
    stores_same false z o p = absurd (subst T p tt)

    acting-memory : (act : Action) → writes_registers act ≡ false
        → acting_of b r (put_of b.vlenb (to_memory a n x) s) e i act ≡ acting_of b r s e i act
    unfolding acting_of
    acting-memory (A.Compute k) p = absurd (subst T p tt)
    acting-memory (A.Permute k) p = absurd (subst T p tt)
    acting-memory (A.Transfer t) p = unfold put_of in stores_same t.store t.bytes _ p

    memory-stable : writes_registers e.action ≡ false → effect_of b r (put_of b.vlenb (to_memory a n x) s) e i ≡ effect_of b r s e i
    unfolding effect_of
    memory-stable p = rw (acting-memory e.action p) (unfold put_of in refl)

  -- a write by its register and its EEW
  put-field : (s : Core) (k : ℕ) (g : Group) (x : Element) → g.reg ≡ (field_group e.dest k).reg → g.eew ≡ e.dest.eew
      → put_of b.vlenb (to_registers g j x) s ≡ put_of b.vlenb (to_registers (field_group e.dest k) j x) s
  unfolding put_of
  put-field s k g x p q = rw (p, q)

  -- after all that an element writes
  all_stable : (t : Bool) → writes_registers e.action ≡ t → (t ≡ true → Undisturbed b.vlenb e) → (s : Core) (ws : List Write)
      → Wrote e.dest j t ws
      → effect_of b r (put_all b.vlenb ws s) e i ≡ effect_of b r s e i
  unfolding put_all
  all_stable t p u s _ (nothing _) = refl
  all_stable _ p u s _ (in_registers k g x ws n q o w) =
      all_stable true p u (put_of b.vlenb (to_registers g j x) s) ws w ∙ rw (put-field s k g x q o) (registers-stable s k x n (u refl) p)
  all_stable _ p u s _ (in_memory a n x ws w) = all_stable false p u (put_of b.vlenb (to_memory a n x) s) ws w ∙ memory-stable s a n x p

  pub effect-stable : (s : Core) (ws : List Write) → (writes_registers e.action ≡ true → Undisturbed b.vlenb e)
      → effect_of b r s e j ≡ write ws → effect_of b r (put_all b.vlenb ws s) e i ≡ effect_of b r s e i
  effect-stable s ws f h = all_stable (writes_registers e.action) refl f s ws (effect-wrote b r s e j ws h)
