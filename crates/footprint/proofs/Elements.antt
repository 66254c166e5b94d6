-- An element of a legal plan does not see a change that its footprint leaves out: what it does is the same, and it writes before or after.
use Rattle.std.specs.Prelude.{Result, Ok, Err, ⊤}
use Prim.Native.Nat.{ℕ, zero, suc, ◌+◌, ◌≤◌, ◌<◌}
use mathlib.Core.Path.{◌≡◌, refl, ap, ap₂, ◌∙◌, subst}
use mathlib.Core.Logic.{◌⊎◌, inl, inr, ⊎_elim}
use mathlib.Core.Bool.{Bool, true, false, ◌&&◌, cond}
use mathlib.Core.List.{List, [], ◌∷◌}
use native.Mathlib.Omega.{arith}
use lib.ListN.{length}
use lib.Dec.{ltb, leb, eqb}
use borrow.Author.Tests.{ltb-true, ltb-false, leb-false}
use Rattle.laws.proofs.Chain.{either}
use Rattle.fixed.specs.declared.Element.{Element}
use Rattle.fixed.specs.Round.{exact}
use Rattle.control.specs.declared.Board.{Board}
use Rattle.layout.specs.Layout.{bytes_at, with_bytes}
use Rattle.layout.proofs.BytesLaws.{bytes-set, with_bytes-set}
use Rattle.group.specs.declared.Group.{Group}
use Rattle.group.specs.Group.{nfields, field_group}
use Rattle.access.specs.declared.Fault.{Fault}
use Rattle.access.specs.Access.{field_address, fields_access}
use Rattle.plan.specs.declared.Read.{Read}
use Rattle.plan.specs.declared.Read.TheVariants as R
use Rattle.plan.specs.declared.Action.{Action}
use Rattle.plan.specs.declared.Action.TheVariants as A
use Rattle.plan.specs.declared.Elementwise.{Elementwise}
use Rattle.turn_theory.specs.Turn.{Effect, inactive, fault, write}
use Rattle.machine.specs.State.{Core}
use Rattle.machine.specs.Effect.{Write, to_registers, to_memory, put_of, put_all, value_of, active_of, element_address, if_granted}
use Rattle.machine.specs.Effect.{vs2_at, stays_at}
use Rattle.machine.specs.Effect.{each_field, field_write, transferring, acting_of, effect_of}
use Rattle.machine.proofs.EffectLaws.{permuted-same}
use Rattle.footprint.specs.Changes.{Change, register_byte, scalar_register, memory_byte, changed_registers, changed_scalars, changed_memory}
use Rattle.footprint.proofs.Spared.{and_none, memory-length, ElementKept, ReadKept}

-- a change of the state but for rights and vstart
abbrev pub core_with : Change → Core → Core
core_with c s = record {
  registers = changed_registers c s.registers;
  scalars = changed_scalars c s.scalars;
  memory = changed_memory c s.memory;
  control = s.control;
}

-- ---- memory

-- n bytes from a are read as before, and written before or after the change
pub record BytesKept (c : Change) (a n : ℕ) : Type 0 where
  pub read : (memory : List ℕ) → bytes_at (changed_memory c memory) a n ≡ bytes_at memory a n
  pub written : (memory : List ℕ) (x : ℕ) → with_bytes (changed_memory c memory) a n x ≡ changed_memory c (with_bytes memory a n x)

-- no byte of them is changed
abbrev pub SparesBytes : Change → ℕ → ℕ → Type 0
SparesBytes (register_byte k x) a n = Unit {0}
SparesBytes (scalar_register r x) a n = Unit {0}
SparesBytes (memory_byte k x) a n = (leb a k && ltb k (a + n)) ≡ false

pub bytes-kept : (c : Change) (a n : ℕ) → SparesBytes c a n → BytesKept c a n
bytes-kept (register_byte k x) a n h = record { read = λ memory. refl; written = λ memory y. refl }
bytes-kept (scalar_register r x) a n h = record { read = λ memory. refl; written = λ memory y. refl }
bytes-kept (memory_byte k x) a n h =
    let outside : (a + n ≤ k) ⊎ (k < a) =
    ⊎_elim (λ t. inr (leb-false a k t)) (λ t. inl (ltb-false k (a + n) t)) (and_none (leb a k) (ltb k (a + n)) h) in
    record { read = λ memory. bytes-set memory k x a n outside; written = λ memory y. with_bytes-set memory k x a n y outside }

-- ---- what element i of an instruction reads and writes

abbrev pub MovedSpared : ℕ → Change → Read → Action → Type 0
MovedSpared vlenb c vs2 (A.Compute k) = Unit {0}
MovedSpared vlenb c vs2 (A.Permute p) = (k : ℕ) → k < p.vlmax → ReadKept vlenb c vs2 k
MovedSpared vlenb c vs2 (A.Transfer t) = Unit {0}

pub record ElementSpared (vlenb : ℕ) (c : Change) (e : Elementwise) (i : ℕ) : Type 0 where
  pub vs2 : ReadKept vlenb c e.vs2 i
  pub vs1 : ReadKept vlenb c e.vs1 i
  pub vd : ReadKept vlenb c e.vd i
  pub v0 : ReadKept vlenb c e.v0 i
  pub mask : e.masked ≡ true → ReadKept vlenb c (R.Bit 0) i
  pub dest : (f : ℕ) → f ≤ e.dest.nf → ElementKept vlenb c (field_group e.dest f).reg e.dest.eew i
  pub moved : MovedSpared vlenb c e.vs2 e.action

-- and what it reads or writes in memory, where the registers are these
abbrev pub ActionSpared : ℕ → Change → List ℕ → Elementwise → ℕ → Action → Type 0
ActionSpared vlenb c file e i (A.Compute k) = Unit {0}
ActionSpared vlenb c file e i (A.Permute p) = Unit {0}
ActionSpared vlenb c file e i (A.Transfer t) = (f : ℕ) → f ≤ e.dest.nf
    → BytesKept c (field_address (element_address t i (value_of vlenb file e.vs2 i)) t.bytes f) t.bytes

pub active-kept : (vlenb : ℕ) (c : Change) (masked : Bool) (i : ℕ) (file : List ℕ) → (masked ≡ true → ReadKept vlenb c (R.Bit 0) i)
    → active_of vlenb (changed_registers c file) masked i ≡ active_of vlenb file masked i
unfolding value_of
active-kept vlenb c false i file h = refl
active-kept vlenb c true i file h = ap (λ (y : ℕ). eqb y 1) (h refl file)

module _ (b : Board) (c : Change) (r : List ℕ) (e : Elementwise) (i : ℕ) (k : ElementSpared b.vlenb c e i) where
  abbrev vlenb : ℕ
  vlenb = b.vlenb

  abbrev g : Group
  g = e.dest

  -- ---- what it does

  module _ (n a : ℕ) (h : (f : ℕ) → f ≤ g.nf → BytesKept c (field_address a n f) n) (s : Core) where
    field-same : (store : Bool) (f : ℕ) → f ≤ g.nf
        → field_write vlenb (changed_registers c s.registers) (changed_memory c s.memory) store g n i a f
        ≡ field_write vlenb s.registers s.memory store g n i a f
    unfolding value_of
    field-same true f l = ap (to_memory (field_address a n f) n) ((k.dest f l).read s.registers)
    field-same false f l = rw ((h f l).read s.memory)

    fields-same : (store : Bool) (f others : ℕ) → f + others ≤ nfields g
        → each_field (field_write vlenb (changed_registers c s.registers) (changed_memory c s.memory) store g n i a) f others
        ≡ each_field (field_write vlenb s.registers s.memory store g n i a) f others
    unfolding each_field
    fields-same store f zero l = refl
    fields-same store f (suc others) l = ap₂ ◌∷◌ (field-same store f (omega arith)) (fields-same store (suc f) others (omega arith))

    transferring-same : (store : Bool) → transferring vlenb r (core_with c s) store g n i a ≡ transferring vlenb r s store g n i a
    transferring-same store = rw (memory-length c s.memory, fields-same store 0 (nfields g) (omega arith))

  vs2-same : (vlmax : ℕ) → ((j : ℕ) → j < vlmax → ReadKept vlenb c e.vs2 j) → (file : List ℕ) (j : ℕ)
      → vs2_at vlenb (changed_registers c file) e.vs2 vlmax j ≡ vs2_at vlenb file e.vs2 vlmax j
  vs2-same vlmax h file j = go (ltb j vlmax) refl
    where
      go : (t : Bool) → ltb j vlmax ≡ t
          → cond t (value_of vlenb (changed_registers c file) e.vs2 j) 0 ≡ cond t (value_of vlenb file e.vs2 j) 0
      go true t = h j (ltb-true j vlmax t) file
      go false t = refl

  acting-same : (s : Core) (act : Action) → MovedSpared vlenb c e.vs2 act → ActionSpared vlenb c s.registers e i act
      → acting_of b r (core_with c s) e i act ≡ acting_of b r s e i act
  unfolding acting_of
  acting-same s (A.Compute o) m h = rw (k.vs2 s.registers, k.vs1 s.registers, k.vd s.registers, k.v0 s.registers)
  acting-same s (A.Permute p) m h =
      rw (
        k.vs1 s.registers,
        permuted-same p.op p.sew e.end _ _ (value_of vlenb s.registers e.vs1 i) i
            (λ j q. vs2-same p.vlmax m s.registers j),
      )
  acting-same s (A.Transfer t) m h =
      ap (λ (o : ℕ). transferring vlenb r (core_with c s) t.store g t.bytes i (element_address t i o)) (k.vs2 s.registers)
      ∙ transferring-same t.bytes _ h s t.store

  pub effect-same : (s : Core)
      → (active_of vlenb s.registers e.masked i ≡ true → ActionSpared vlenb c s.registers e i e.action)
      → effect_of b r (core_with c s) e i ≡ effect_of b r s e i
  unfolding effect_of
  effect-same s h =
      ap (λ (t : Bool). cond t (acting_of b r (core_with c s) e i e.action) inactive)
      (active-kept vlenb c e.masked i s.registers k.mask)
      ∙ go (active_of vlenb s.registers e.masked i) h
    where
      go : (t : Bool) → (t ≡ true → ActionSpared vlenb c s.registers e i e.action)
          → cond t (acting_of b r (core_with c s) e i e.action) inactive ≡ cond t (acting_of b r s e i e.action) inactive
      go true f = acting-same s e.action k.moved (f refl)
      go false f = refl

  -- ---- what it writes

  put-kept : (reg eew : ℕ) → ElementKept vlenb c reg eew i → (d : Group) (x : Element) (s : Core) → d.reg ≡ reg → d.eew ≡ eew
      → put_of vlenb (to_registers d i x) (core_with c s) ≡ core_with c (put_of vlenb (to_registers d i x) s)
  unfolding put_of
  put-kept reg eew h d x s p q = rw (p, q, h.written s.registers x.value)

  -- one write to the destination
  one_kept : (x : Element) (s : Core)
      → put_all vlenb (to_registers g i x ∷ []) (core_with c s) ≡ core_with c (put_all vlenb (to_registers g i x ∷ []) s)
  unfolding put_all
  one_kept x s = put-kept (field_group g 0).reg g.eew (k.dest 0 (omega arith)) g x s (omega arith) refl

  module _ (file memory : List ℕ) (n a : ℕ) (h : (f : ℕ) → f ≤ g.nf → BytesKept c (field_address a n f) n) where
    field-kept : (store : Bool) (f : ℕ) (s : Core) → f ≤ g.nf
        → put_of vlenb (field_write vlenb file memory store g n i a f) (core_with c s)
        ≡ core_with c (put_of vlenb (field_write vlenb file memory store g n i a f) s)
    unfolding put_of
    field-kept true f s l = rw ((h f l).written s.memory (value_of vlenb file (R.Element (field_group g f)) i))
    field-kept false f s l = put-kept (field_group g f).reg g.eew (k.dest f l) (field_group g f)
        (exact (bytes_at memory (field_address a n f) n)) s refl refl

    fields-kept : (store : Bool) (f others : ℕ) (s : Core) → f + others ≤ nfields g
        → put_all vlenb (each_field (field_write vlenb file memory store g n i a) f others) (core_with c s)
        ≡ core_with c (put_all vlenb (each_field (field_write vlenb file memory store g n i a) f others) s)
    unfolding put_all each_field
    fields-kept store f zero s l = refl
    fields-kept store f (suc others) s l =
        ap (put_all vlenb (each_field (field_write vlenb file memory store g n i a) (suc f) others)) (field-kept store f s (omega arith))
        ∙ fields-kept store (suc f) others (put_of vlenb (field_write vlenb file memory store g n i a f) s) (omega arith)

  -- what an effect writes is written before or after the change
  abbrev WritesKept : Effect Fault (List Write) → Type 0
  WritesKept inactive = Unit {0}
  WritesKept (fault f) = Unit {0}
  WritesKept (write l) = (s : Core) → put_all vlenb l (core_with c s) ≡ core_with c (put_all vlenb l s)

  granted-kept : (v : Result ⊤ Fault) (o : Effect Fault (List Write)) → WritesKept o → WritesKept (if_granted v o)
  granted-kept (Ok tt) o h = h
  granted-kept (Err f) o h = tt

  acting-writes : (s : Core) (act : Action) → ActionSpared vlenb c s.registers e i act → WritesKept (acting_of b r s e i act)
  unfolding acting_of
  acting-writes s (A.Compute o) h = one_kept _
  acting-writes s (A.Permute p) h =
      either WritesKept (stays_at p.op (value_of vlenb s.registers e.vs1 i) i) _ _ (λ t. tt) (λ t. one_kept _)
  acting-writes s (A.Transfer t) h =
      granted-kept (fields_access r (length s.memory) t.store _ t.bytes 0 (nfields g)) _
      (λ x. fields-kept s.registers s.memory t.bytes _ h t.store 0 (nfields g) x (omega arith))

  pub effect_writes : (s : Core)
      → (active_of vlenb s.registers e.masked i ≡ true → ActionSpared vlenb c s.registers e i e.action)
      → (l : List Write) → effect_of b r s e i ≡ write l → (x : Core) → put_all vlenb l (core_with c x) ≡ core_with c (put_all vlenb l x)
  unfolding effect_of
  effect_writes s h l q =
      subst WritesKept q (either WritesKept (active_of vlenb s.registers e.masked i) (acting_of b r s e i e.action) inactive
      (λ t. acting-writes s e.action (h t)) (λ t. tt))
