-- Operands by where they come from, and an element by what it comes to: masked off, faulted, moved field by field, or computed.
use Rattle.std.proofs.Common.{◌≡◌, ℕ, suc, ◌+◌, ◌-◌, ◌*◌, ◌^◌, ◌<◌, ◌≤◌, Bool, true, false, cond, List, [], ◌∷◌, length, sym, refl, ap}
use Rattle.std.proofs.Common.{◌∙◌, subst, mul-le-mul_right, mod-eq_of_lt, add-one, arith}
use Rattle.std.specs.Prelude.{Result, Ok, ⊤}
use Rattle.fixed.specs.declared.Element.{Element}
use Rattle.alu.specs.Element.{element_of}
use Rattle.control.specs.declared.Board.{Board}
use Rattle.control.specs.declared.Control.{Control}
use Rattle.group.specs.declared.Group.{Group}
use Rattle.group.specs.Group.{registers_of, nfields, field_group}
use Rattle.layout.specs.Layout.{bytes_at, with_bytes, element_at, with_element, Inside}
use Rattle.layout.proofs.BytesLaws.{length-with_bytes}
use Rattle.layout.proofs.ElementLaws.{length-with_element}
use Rattle.access.specs.declared.Fault.{Fault}
use Rattle.access.specs.Access.{field_address, fields_access}
use Rattle.plan.specs.declared.Read.{Read}
use Rattle.plan.specs.declared.Action.{Action}
use Rattle.plan.specs.declared.Compute.{Compute}
use Rattle.plan.specs.declared.Transfer.{Transfer}
use Rattle.plan.specs.declared.Elementwise.{Elementwise}
use Rattle.turn_theory.specs.Turn.{Effect, write}
use Rattle.machine.specs.State.{Core}
use Rattle.machine.specs.Effect.{Write, to_registers, saturating, put_of, put_all, value_of, active_of, element_address}
use Rattle.machine.specs.Effect.{each_field, field_write, transferring, acting_of, effect_of}
use Rattle.execute.specs.Step.{ReadInside, FieldsInside, core_at, Did}

-- ---- operands

pub read-inside : (size vlenb i : ℕ) (read v : Read) → read ≡ v → ReadInside size vlenb read i → ReadInside size vlenb v i
read-inside size vlenb i read v e h = rw e at h

pub value-of : (vlenb i r : ℕ) (file : List ℕ) (read v : Read) → read ≡ v → r ≡ value_of vlenb file v i → r ≡ value_of vlenb file read i
value-of vlenb i r file read v e p = rw e p

-- ---- the fields of an element, one after the other

pub first-inside : (size vlenb : ℕ) (g : Group) (i : ℕ) → FieldsInside size vlenb g i → Inside size vlenb g.reg g.eew i
first-inside size vlenb g i f =
    let z : (field_group g 0).reg ≡ g.reg = omega arith in subst (λ (reg : ℕ). Inside size vlenb reg g.eew i) z (f 0 (omega arith))

-- one field, by what it is
pub kept-on-store : {A : Type 0} (store : Bool) (x y : A) → store ≡ true → x ≡ cond store x y
kept-on-store store x y e = rw e

pub kept-on-load : {A : Type 0} (store : Bool) (x y : A) → store ≡ false → y ≡ cond store x y
kept-on-load store x y e = rw e

pub field_stored : (store : Bool) (vlenb reg eew i a n x : ℕ) (file memory memory' : List ℕ) → store ≡ true
    → x ≡ element_at vlenb file reg eew i → memory' ≡ with_bytes memory a n x
    → memory' ≡ cond store (with_bytes memory a n (element_at vlenb file reg eew i)) memory
field_stored store vlenb reg eew i a n x file memory memory' e p q = rw (e, ← p) q

pub field-loaded : (store : Bool) (vlenb reg eew i a n x : ℕ) (file memory file' : List ℕ) → store ≡ false
    → x ≡ bytes_at memory a n → file' ≡ with_element vlenb file reg eew i x
    → file' ≡ cond store file (with_element vlenb file reg eew i (bytes_at memory a n))
field-loaded store vlenb reg eew i a n x file memory file' e p q = rw (e, ← p) q

-- what one field of a load or a store leaves
module _ (vlenb : ℕ) (file₀ memory₀ file memory file' memory' : List ℕ) (store : Bool) (g : Group) (n i a k reg field : ℕ)
    (p : reg ≡ (field_group g k).reg) (q : field ≡ a + k * n) (l : a + k * n < 2 ^ 64)
    (r : file' ≡ cond store file (with_element vlenb file reg g.eew i (bytes_at memory field n)))
    (s : memory' ≡ cond store (with_bytes memory field n (element_at vlenb file reg g.eew i)) memory) where
  put-moved : (store ≡ true → file ≡ file₀) → (store ≡ false → memory ≡ memory₀) → (x : List ℕ) (c : Control)
      → put_of vlenb (field_write vlenb file₀ memory₀ store g n i a k) (core_at file memory x c) ≡ core_at file' memory' x c
  unfolding put_of value_of
  put-moved f h x c = go store refl
    where
      plain : field_address a n k ≡ field
      plain = mod-eq_of_lt l ∙ sym q

      go : (t : Bool) → store ≡ t
          → put_of vlenb (field_write vlenb file₀ memory₀ store g n i a k) (core_at file memory x c) ≡ core_at file' memory' x c
      go true e = rw (r, s, e, plain, f e, p)
      go false e = rw (r, s, e, plain, h e, p)

-- while fields are moved: k of them have been
module _ (vlenb : ℕ) (file₀ memory₀ : List ℕ) (store : Bool) (g : Group) (n i a : ℕ) where
  abbrev writes : ℕ → ℕ → List Write
  writes k others = each_field (field_write vlenb file₀ memory₀ store g n i a) k others

  pub record Moving (file memory : List ℕ) (reg field k : ℕ) : Type 0 where
    pub register : reg ≡ (field_group g k).reg
    pub address : field ≡ a + k * n
    pub file-length : length file ≡ length file₀
    pub memory-length : length memory ≡ length memory₀
    pub file-kept : store ≡ true → file ≡ file₀
    pub memory_kept : store ≡ false → memory ≡ memory₀
    -- the others, from here, give what all give
    pub rest : (x : List ℕ) (c : Control)
        → put_all vlenb (writes k (nfields g - k)) (core_at file memory x c) ≡ put_all vlenb (writes 0 (nfields g)) (core_at file₀ memory₀ x c)

  pub moving-none : Moving file₀ memory₀ g.reg a 0
  moving-none = record {
    register = omega arith;
    address = omega arith;
    file-length = refl;
    memory-length = refl;
    file-kept = λ e. refl;
    memory_kept = λ e. refl;
    rest = λ x c. let all : nfields g - 0 ≡ nfields g = omega arith in rw all;
  }

  first-moved : (k others : ℕ) (s s' : Core) → put_of vlenb (field_write vlenb file₀ memory₀ store g n i a k) s ≡ s'
      → put_all vlenb (writes k (suc others)) s ≡ put_all vlenb (writes (suc k) others) s'
  unfolding put_all each_field
  first-moved k others s s' e = ap (put_all vlenb (writes (suc k) others)) e

  module _ (file memory : List ℕ) (reg field k : ℕ) (z : Moving file memory reg field k) (l : k < g.nf + 1) where
    pub moving-more : (file' memory' : List ℕ) (step : ℕ) → length memory₀ ≤ 65536 → a + nfields g * n ≤ length memory₀
        → file' ≡ cond store file (with_element vlenb file reg g.eew i (bytes_at memory field n))
        → memory' ≡ cond store (with_bytes memory field n (element_at vlenb file reg g.eew i)) memory
        → step ≡ registers_of g → Moving file' memory' (reg + step) (field + n) (k + 1)
    moving-more file' memory' step t u r s p = record {
      register = omega (arith, p, z.register);
      address = omega (arith, z.address);
      file-length = r-length store r ∙ z.file-length;
      memory-length = s-length store s ∙ z.memory-length;
      file-kept = λ e. r ∙ rw e (z.file-kept e);
      memory_kept = λ e. s ∙ rw e (z.memory_kept e);
      rest = λ x c. sym (rw (more, less, add-one)
          (first-moved k (g.nf - k) (core_at file memory x c) (core_at file' memory' x c) (moved x c))) ∙ z.rest x c;
    } where
      more : nfields g - k ≡ suc (g.nf - k)
      more = omega arith

      less : nfields g - (k + 1) ≡ g.nf - k
      less = omega arith

      within : a + k * n < 2 ^ 64
      within = omega (arith, mul-le-mul_right n l)

      moved : (x : List ℕ) (c : Control)
          → put_of vlenb (field_write vlenb file₀ memory₀ store g n i a k) (core_at file memory x c) ≡ core_at file' memory' x c
      moved =
          put-moved vlenb file₀ memory₀ file memory file' memory' store g n i a k reg field z.register z.address within r s
          z.file-kept z.memory_kept

      r-length : (t : Bool) → file' ≡ cond t file (with_element vlenb file reg g.eew i (bytes_at memory field n))
          → length file' ≡ length file
      r-length true e = rw e
      r-length false e = rw e (length-with_element vlenb file reg g.eew i (bytes_at memory field n))

      s-length : (t : Bool) → memory' ≡ cond t (with_bytes memory field n (element_at vlenb file reg g.eew i)) memory
          → length memory' ≡ length memory
      s-length true e = rw e (length-with_bytes memory field n (element_at vlenb file reg g.eew i))
      s-length false e = rw e

  pub moving-done : (file memory : List ℕ) (reg field k : ℕ) → Moving file memory reg field k → g.nf + 1 ≤ k → (x : List ℕ) (c : Control)
      → core_at file memory x c ≡ put_all vlenb (writes 0 (nfields g)) (core_at file₀ memory₀ x c)
  unfolding put_all each_field
  moving-done file memory reg field k z l x c = let none : nfields g - k ≡ 0 = omega arith in sym (rw none) ∙ z.rest x c

-- ---- elements

module _ (vlenb : ℕ) (rights file memory file' memory' : List ℕ) (store : Bool) (g : Group) (n i a : ℕ) (v : Result ⊤ Fault)
    (p : v ≡ fields_access rights (length memory) store a n 0 (nfields g)) (x : List ℕ) (c : Control) where
  abbrev moves : Effect Fault (List Write)
  moves = transferring vlenb rights (core_at file memory x c) store g n i a

  pub moved : v ≡ Ok tt
      → ((x : List ℕ) (c : Control) → core_at file' memory' x c
      ≡ put_all vlenb (each_field (field_write vlenb file memory store g n i a) 0 (nfields g)) (core_at file memory x c))
      → Did vlenb moves (core_at file memory x c) (Ok tt) (core_at file' memory' x c)
  moved q d =
      let h : fields_access rights (length memory) store a n 0 (nfields g) ≡ Ok tt = cc in
      record { check = rw h; state = rw h (d x c) }

pub computed : (vlenb : ℕ) (i o o' p p' d d' v v' : ℕ) (file memory file' x : List ℕ) (c : Control) (g : Group) (k : Compute) (r : Element)
    → o ≡ o' → p ≡ p' → d ≡ d' → v ≡ v' → r ≡ element_of k.sew k.vxrm o p d v k.op
    → file' ≡ with_element vlenb file g.reg g.eew i r.value
    → Did vlenb (write (to_registers g i (element_of k.sew k.vxrm o' p' d' v' k.op) ∷ []))
    (core_at file memory x c) (Ok tt) (core_at file' memory x (saturating r.saturates c))
unfolding put_all put_of
computed vlenb i o o' p p' d d' v v' file memory file' x c g k r eo ep ed ev e l =
    let h : element_of k.sew k.vxrm o' p' d' v' k.op ≡ r = rw (← eo, ← ep, ← ed, ← ev, ← e) in
    record { check = refl; state = rw (h, l) }

-- by the address as it was worked out
pub transfers-at : (vlenb : ℕ) (rights : List ℕ) (s s' : Core) (t : Transfer) (g : Group) (r : Result ⊤ Fault) (a i o p : ℕ) → o ≡ p
    → a ≡ element_address t i o → Did vlenb (transferring vlenb rights s t.store g t.bytes i a) s r s'
    → Did vlenb (transferring vlenb rights s t.store g t.bytes i (element_address t i p)) s r s'
transfers-at vlenb rights s s' t g r a i o p e h d = rw (h, e) at d

module _ (b : Board) (rights : List ℕ) (s : Core) (e : Elementwise) (i : ℕ) (t : Bool)
    (p : t ≡ active_of b.vlenb s.registers e.masked i) where
  pub masked_off : t ≡ false → Did b.vlenb (effect_of b rights s e i) s (Ok tt) s
  unfolding effect_of
  masked_off n = let h = sym p ∙ n in record { check = rw h; state = rw h }

  pub acted : {v : Action} {r : Result ⊤ Fault} {s' : Core} → t ≡ true → e.action ≡ v → Did b.vlenb (acting_of b rights s e i v) s r s'
      → Did b.vlenb (effect_of b rights s e i) s r s'
  unfolding effect_of
  acted {r = r} {s'} n q d =
      let h = sym p ∙ n in
      rw h (subst (λ (a : Action). Did b.vlenb (acting_of b rights s e i a) s r s') (sym q) d)
