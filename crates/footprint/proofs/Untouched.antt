-- What a word does not touch, part by part: its plan is the same after the change, and none of its elements reads or writes what changes.
use Prim.Native.Nat.{ℕ, ◌*◌, ◌≤◌, ◌<◌}
use mathlib.Core.Path.{◌≡◌, refl, sym, ap, ◌∙◌, subst}
use mathlib.Core.Bool.{Bool, true, false, ◌&&◌, cond}
use mathlib.Core.List.{List, [], ◌∷◌, ◌++◌}
use native.Mathlib.Omega.{arith}
use lib.ListN.{set}
use lib.Seq.{get_or-set_other, set_comm}
use lib.Dec.{eqb}
use borrow.Author.Tests.{eq-eqb}
use Rattle.operation.specs.declared.Size.{Size}
use Rattle.operation.specs.declared.Size.TheVariants.{Single}
use Rattle.operation.specs.Shape.{shape_of}
use Rattle.control.specs.declared.Board.{Board}
use Rattle.control.specs.declared.Control.{Control}
use Rattle.control.specs.Vtype.{sew_of}
use Rattle.decode.specs.declared.Source.{Source}
use Rattle.decode.specs.declared.Source.TheVariants.{Vector, Scalar, Immediate}
use Rattle.decode.specs.declared.PermutationOp.{PermutationOp}
use Rattle.decode.specs.declared.PermutationOp.TheVariants.{Vid, Vslideup, Vslidedown, Vslide1up, Vslide1down, Vrgather, Vrgatherei16}
use Rattle.decode.specs.declared.Access.{Access}
use Rattle.decode.specs.declared.Mode.{Mode}
use Rattle.decode.specs.declared.Mode.TheVariants as M
use Rattle.decode.specs.declared.Instruction.{Instruction}
use Rattle.decode.specs.declared.Instruction.TheVariants as I
use Rattle.decode.specs.Word.{decode_of}
use Rattle.plan.specs.declared.Read.{Read}
use Rattle.plan.specs.declared.Read.TheVariants as R
use Rattle.plan.specs.declared.Action.{Action}
use Rattle.plan.specs.declared.Action.TheVariants as A
use Rattle.plan.specs.declared.Transfer.{Transfer}
use Rattle.plan.specs.declared.Elementwise.{Elementwise}
use Rattle.plan.specs.declared.Plan.TheVariants as P
use Rattle.plan.specs.Plan.{scalar_of, second_of, index_of, moved_by, shaped_of, permuting_of, by_mode, plan_of}
use Rattle.plan.specs.Sources.{registers_read, v0_source, element_sources, sources_of}
use Rattle.machine.specs.State.{State}
use Rattle.machine.specs.Effect.{active_of}
use Rattle.machine.specs.OneTurn.{with_scalar}
use Rattle.machine.specs.Machine.{plan_at}
use Rattle.machine.proofs.PlanFacts.{OfV0, unused, used, ReachFits}
use Rattle.footprint.specs.Footprint.{any_of, destinations_of, uses_register, source_scalars, scalars_of, names_scalar, field_at}
use Rattle.footprint.specs.Footprint.{element_addresses, transfer_addresses, action_addresses, addresses_byte}
use Rattle.footprint.specs.Changes.{Change, register_byte, scalar_register, memory_byte, changed_scalars, touches}
use Rattle.footprint.proofs.Spared.{or-none, any-first, any-rest, from_each, Avoids, avoids-first, avoids-rest}
use Rattle.footprint.proofs.Spared.{ReadKept, ReadContained, element-kept, read_kept}
use Rattle.footprint.proofs.Contained.{ElementsContained}
use Rattle.footprint.proofs.Elements.{SparesBytes, bytes-kept, MovedSpared, ElementSpared, ActionSpared}

-- ---- the parts

abbrev pub AvoidsScalars : Change → List ℕ → Type 0
AvoidsScalars (register_byte k x) named = Unit {0}
AvoidsScalars (scalar_register r x) named = any_of (eqb r) named ≡ false
AvoidsScalars (memory_byte a x) named = Unit {0}

-- no byte that a test finds addressed is changed
abbrev pub AvoidsMemory : Change → (ℕ → Bool) → Type 0
AvoidsMemory (register_byte k x) addressed = Unit {0}
AvoidsMemory (scalar_register r x) addressed = Unit {0}
AvoidsMemory (memory_byte a x) addressed = addressed a ≡ false

pub record Untouched (b : Board) (word : ℕ) (s : State) (c : Change) : Type 0 where
  pub registers : Avoids b.vlenb c (sources_of (plan_at b word s) ++ destinations_of (plan_at b word s))
  pub scalars : AvoidsScalars c (scalars_of (decode_of word))
  pub memory : AvoidsMemory c (addresses_byte b s (plan_at b word s))

pub untouched : (b : Board) (word : ℕ) (s : State) (c : Change) → touches b word s c ≡ false → Untouched b word s c
unfolding touches uses_register names_scalar
untouched b word s (register_byte k x) h = record { registers = h; scalars = tt; memory = tt }
untouched b word s (scalar_register r x) h = record { registers = tt; scalars = h; memory = tt }
untouched b word s (memory_byte a x) h = record { registers = tt; scalars = tt; memory = h }

-- ---- scalar registers

-- register r is read as before, and written before or after the change
pub record ScalarKept (c : Change) (r : ℕ) : Type 0 where
  pub read : (x : List ℕ) → scalar_of (changed_scalars c x) r ≡ scalar_of x r
  pub written : (x : List ℕ) (v : ℕ) → with_scalar (changed_scalars c x) r v ≡ changed_scalars c (with_scalar x r v)

other : (r q : ℕ) → eqb r q ≡ false → q ≡ r → ⊥
other r q h e = let z : true ≡ false = sym (eq-eqb r q (sym e)) ∙ h in (let y : ◌≡◌ {A = ℕ} 0 1 = cc in omega arith)

set-kept : (x : List ℕ) (r y q v : ℕ) (t : Bool) → (q ≡ r → ⊥) → cond t (set x r y) (set (set x r y) q v) ≡ set (cond t x (set x q v)) r y
set-kept x r y q v true d = refl
set-kept x r y q v false d = set_comm x r q y v (λ e. d (sym e))

pub scalar-kept : (c : Change) (q : ℕ) (others : List ℕ) → AvoidsScalars c (q ∷ others) → ScalarKept c q
scalar-kept (register_byte k y) q others h = record { read = λ x. refl; written = λ x v. refl }
scalar-kept (scalar_register r y) q others h =
    let d = other r q (or-none (eqb r q) (any_of (eqb r) others) h).0 in
    record { read = λ x. rw (get_or-set_other x r q y 0 d); written = λ x v. set-kept x r y q v (eqb q 0) d }
scalar-kept (memory_byte a y) q others h = record { read = λ x. refl; written = λ x v. refl }

pub scalars-others : (c : Change) (xs ys : List ℕ) → AvoidsScalars c (xs ++ ys) → AvoidsScalars c xs × AvoidsScalars c ys
scalars-others (register_byte k y) xs ys h = (tt, tt)
scalars-others (scalar_register r y) xs ys h = (any-first (eqb r) xs ys h, any-rest (eqb r) xs ys h)
scalars-others (memory_byte a y) xs ys h = (tt, tt)

-- ---- the plan is the same

module _ (c : Change) (x : List ℕ) where
  second-kept : (v : ℕ) (size : Size) (unsigned : Bool) (s : Source) → AvoidsScalars c (source_scalars s)
      → second_of (changed_scalars c x) v size unsigned s ≡ second_of x v size unsigned s
  unfolding second_of
  second-kept v size unsigned (Vector r) h = refl
  second-kept v size unsigned (Scalar r) h = rw ((scalar-kept c r [] h).read x)
  second-kept v size unsigned (Immediate n) h = refl

  index_kept : (v eew : ℕ) (s : Source) → AvoidsScalars c (source_scalars s) → index_of (changed_scalars c x) v eew s ≡ index_of x v eew s
  unfolding index_of
  index_kept v eew (Vector r) h = refl
  index_kept v eew (Scalar r) h = rw ((scalar-kept c r [] h).read x)
  index_kept v eew (Immediate n) h = refl

  by-kept : (v : ℕ) (op : PermutationOp) (s : Source) → AvoidsScalars c (source_scalars s)
      → moved_by (changed_scalars c x) v op s ≡ moved_by x v op s
  by-kept v Vid s h = refl
  by-kept v Vslideup s h = index_kept v (sew_of v) s h
  by-kept v Vslidedown s h = index_kept v (sew_of v) s h
  by-kept v Vslide1up s h = second-kept v Single true s h
  by-kept v Vslide1down s h = second-kept v Single true s h
  by-kept v Vrgather s h = index_kept v (sew_of v) s h
  by-kept v Vrgatherei16 s h = index_kept v 16 s h

  module _ (b : Board) (d : Control) where
    mode-kept : (a : Access) (m : Mode) → AvoidsScalars c (scalars_of (I.Memory (record {
      store = a.store;
      mode = m;
      eew = a.eew;
      vd = a.vd;
      rs1 = a.rs1;
      masked = a.masked;
      nf = a.nf;
    })))
        → by_mode b (changed_scalars c x) d a m ≡ by_mode b x d a m
    unfolding by_mode scalars_of
    mode-kept a M.UnitStride h = rw ((scalar-kept c a.rs1 _ h).read x)
    mode-kept a (M.Strided r) h =
        rw ((scalar-kept c a.rs1 _ h).read x, (scalar-kept c r [] (scalars-others c (a.rs1 ∷ []) (r ∷ []) h).1).read x)
    mode-kept a (M.Indexed r) h = rw ((scalar-kept c a.rs1 _ h).read x)
    mode-kept a M.MaskBytes h = rw ((scalar-kept c a.rs1 _ h).read x)
    mode-kept a (M.Whole n) h = rw ((scalar-kept c a.rs1 _ h).read x)

    pub plan-kept : (i : Instruction) → AvoidsScalars c (scalars_of i) → plan_of b (changed_scalars c x) d i ≡ plan_of b x d i
    unfolding plan_of scalars_of shaped_of permuting_of
    plan-kept I.Illegal h = refl
    plan-kept (I.Setting t) h = refl
    plan-kept (I.Mask m) h = refl
    plan-kept (I.Reduction a) h = refl
    plan-kept (I.Pack a) h = refl
    plan-kept (I.ScalarMove a) h = refl
    plan-kept (I.Arithmetic a) h = rw (second-kept d.vtype (shape_of a.op).vs1 (shape_of a.op).unsigned a.source h)
    plan-kept (I.Permutation a) h = rw (by-kept d.vtype a.op a.source h)
    plan-kept (I.Memory a) h = ap P.Elements (mode-kept a a.mode h)

-- ---- the elements

module _ (b : Board) (v : 1 ≤ b.vlenb) (c : Change) where
  abbrev vlenb : ℕ
  vlenb = b.vlenb

  v0-spared : (n i : ℕ) (masked : Bool) (r : Read) → n ≤ 8 * vlenb → i < n → OfV0 r → Avoids vlenb c (registers_read (v0_source masked r))
      → ReadKept vlenb c r i
  v0-spared n i masked _ l u unused h = read_kept vlenb v n c (R.Constant 0) i tt (avoids-none c) u where
    avoids-none : (c : Change) → Avoids vlenb c []
    avoids-none (register_byte k x) = refl
    avoids-none (scalar_register r x) = tt
    avoids-none (memory_byte a x) = tt
  v0-spared n i true _ l u used h = read_kept vlenb v n c (R.Bit 0) i l h u
  v0-spared n i false _ l u used h = read_kept vlenb v n c (R.Bit 0) i l h u

  pub mask-spared : (n i : ℕ) (masked : Bool) (r : Read) → n ≤ 8 * vlenb → i < n → Avoids vlenb c (registers_read (v0_source masked r))
      → masked ≡ true → ReadKept vlenb c (R.Bit 0) i
  mask-spared n i masked r l u h e = read_kept vlenb v n c (R.Bit 0) i l (subst (λ t. Avoids vlenb c (registers_read (v0_source t r))) e h) u

  moved-spared : (n : ℕ) (vs2 : Read) (act : Action) → ReadContained vlenb n vs2 → Avoids vlenb c (registers_read vs2) → ReachFits n act
      → MovedSpared vlenb c vs2 act
  moved-spared n vs2 (A.Compute k) l h e = tt
  moved-spared n vs2 (A.Permute p) l h e = λ k u. read_kept vlenb v n c vs2 k l h (omega (arith, e))
  moved-spared n vs2 (A.Transfer t) l h e = tt

  pub element-spared : (e : Elementwise) (i : ℕ) → ElementsContained b e → Avoids vlenb c (element_sources e ++ (e.dest ∷ [])) → i < e.end
      → ElementSpared vlenb c e i
  unfolding element_sources
  element-spared e i y h u =
      let n : ℕ = y.most in
      let l : i < n = omega (arith, y.end) in
      let vs2 = registers_read e.vs2 in
      let vs1 = registers_read e.vs1 in
      let vd = registers_read e.vd in
      let v0 = registers_read (v0_source e.masked e.v0) in
      let all = avoids-first vlenb c (element_sources e) (e.dest ∷ []) h in
      let three = avoids-first vlenb c (vs2 ++ vs1 ++ vd) v0 all in
      let two = avoids-first vlenb c (vs2 ++ vs1) vd three in
      let of-v0 = avoids-rest vlenb c (vs2 ++ vs1 ++ vd) v0 all in
      let of-vs2 = avoids-first vlenb c vs2 vs1 two in
      record {
        vs2 = read_kept vlenb v n c e.vs2 i y.vs2 of-vs2 l;
        vs1 = read_kept vlenb v n c e.vs1 i y.vs1 (avoids-rest vlenb c vs2 vs1 two) l;
        vd = read_kept vlenb v n c e.vd i y.vd (avoids-rest vlenb c (vs2 ++ vs1) vd three) l;
        v0 = v0-spared n i e.masked e.v0 y.bits l y.v0 of-v0;
        mask = mask-spared n i e.masked e.v0 y.bits l of-v0;
        dest = λ f m. element-kept vlenb v n c e.dest f i y.dest (avoids-rest vlenb c (element_sources e) (e.dest ∷ []) h) m l;
        moved = moved-spared n e.vs2 e.action y.vs2 of-vs2 y.reach;
      }

-- what an active element reads or writes in memory
module _ (b : Board) (s : State) (e : Elementwise) (i : ℕ) (l : s.control.vstart ≤ i) (u : i < e.end)
    (h : active_of b.vlenb s.registers e.masked i ≡ true) where
  field-spared : (t : Transfer) (c : Change) → AvoidsMemory c (transfer_addresses b s e t) → (f : ℕ) → f ≤ e.dest.nf
      → SparesBytes c (field_at b s e t i f) t.bytes
  field-spared t (register_byte k x) q f m = tt
  field-spared t (scalar_register r x) q f m = tt
  field-spared t (memory_byte a x) q f m =
      from_each _ _ _ (element-none (active_of b.vlenb s.registers e.masked i) h (from_each _ _ _ q i (omega arith) (omega arith)))
      f (omega arith) (omega arith)
    where
      element-none : (p : Bool) → p ≡ true → (p && element_addresses b s e t a i) ≡ false → element_addresses b s e t a i ≡ false
      element-none p g k = rw g at k

  pub action-spared : (c : Change) (act : Action) → AvoidsMemory c (action_addresses b s e act)
      → ActionSpared b.vlenb c s.registers e i act
  unfolding action_addresses
  action-spared c (A.Compute k) q = tt
  action-spared c (A.Permute p) q = tt
  action-spared c (A.Transfer t) q = λ f m. bytes-kept c (field_at b s e t i f) t.bytes (field-spared t c q f m)
