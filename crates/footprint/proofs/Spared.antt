-- A change of a register that is none of a group's: an element of the group is read as before, and written before or after the change.
use Prim.Native.Nat.{ℕ, zero, suc, ◌+◌, ◌*◌, ◌/◌, ◌%◌, ◌≤◌, ◌<◌}
use mathlib.Core.Path.{◌≡◌, refl, subst}
use mathlib.Core.Logic.{◌⊎◌, inl, inr, ⊎_elim}
use mathlib.Core.Bool.{Bool, true, false, ◌&&◌, ◌||◌}
use mathlib.Core.List.{List, [], ◌∷◌, ◌++◌}
use native.Mathlib.Omega.{arith}
use native.Mathlib.Nat.{mul-le-mul_right, div-add-mod', mod-lt}
use native.Mathlib.Decide.{dec_lt}
use lib.ListN.{length, length-set}
use lib.Dec.{T}
use borrow.Author.Tests.{ltb-false, leb-false}
use Rattle.layout.specs.Layout.{element_at, with_element, element_width}
use Rattle.layout.proofs.ElementLaws.{Clear, element-set, with_element-set}
use Rattle.group.specs.declared.Group.{Group}
use Rattle.group.specs.Group.{mask_group, registers_of, field_group, span_of}
use Rattle.group.proofs.GroupLaws.{fields-before}
use Rattle.plan.specs.declared.Read.{Read}
use Rattle.plan.specs.declared.Read.TheVariants as R
use Rattle.plan.specs.Sources.{registers_read}
use Rattle.machine.specs.Effect.{value_of}
use Rattle.footprint.specs.Footprint.{any_of, any_from, has_register}
use Rattle.footprint.specs.Changes.{Change, register_byte, scalar_register, memory_byte, changed_registers, changed_scalars, changed_memory}

-- ---- tests that fail

pub or-none : (p q : Bool) → (p || q) ≡ false → (p ≡ false) × (q ≡ false)
or-none false q h = (refl, h)
or-none true q h = absurd (subst T h tt)

pub and_none : (p q : Bool) → (p && q) ≡ false → (p ≡ false) ⊎ (q ≡ false)
and_none false q h = inl refl
and_none true q h = inr h

-- none of a list, or of numbers

module _ {A : Type 0} (test : A → Bool) where
  pub any-first : (xs ys : List A) → any_of test (xs ++ ys) ≡ false → any_of test xs ≡ false
  any-first [] ys h = refl
  any-first (x ∷ xs) ys h = let q = or-none (test x) (any_of test (xs ++ ys)) h in rw q.0 (any-first xs ys q.1)

  pub any-rest : (xs ys : List A) → any_of test (xs ++ ys) ≡ false → any_of test ys ≡ false
  any-rest [] ys h = h
  any-rest (x ∷ xs) ys h = any-rest xs ys (or-none (test x) (any_of test (xs ++ ys)) h).1

pub from_each : (test : ℕ → Bool) (i n : ℕ) → any_from test i n ≡ false → (k : ℕ) → i ≤ k → k < i + n → test k ≡ false
unfolding any_from
from_each test i zero h k l u = absurd (omega arith)
from_each test i (suc n) h k l u =
    let q = or-none (test i) (any_from test (suc i) n) h in
    elim (dec_lt i k) [
      | yes y ↦ from_each test (suc i) n q.1 k y (omega arith)
      | no y ↦ let e : k ≡ i = omega arith in rw e q.0
    ]

pub from-none : (test : ℕ → Bool) (i n : ℕ) → ((k : ℕ) → i ≤ k → k < i + n → test k ≡ false) → any_from test i n ≡ false
unfolding any_from
from-none test i zero h = refl
from-none test i (suc n) h = rw (h i (omega arith) (omega arith)) (from-none test (suc i) n (λ k l u. h k (omega arith) (omega arith)))

-- ---- lengths stay

pub registers-length : (c : Change) (l : List ℕ) → length (changed_registers c l) ≡ length l
registers-length (register_byte k x) l = length-set l k x
registers-length (scalar_register r x) l = refl
registers-length (memory_byte a x) l = refl

pub scalars-length : (c : Change) (l : List ℕ) → length (changed_scalars c l) ≡ length l
scalars-length (register_byte k x) l = refl
scalars-length (scalar_register r x) l = length-set l r x
scalars-length (memory_byte a x) l = refl

pub memory-length : (c : Change) (l : List ℕ) → length (changed_memory c l) ≡ length l
memory-length (register_byte k x) l = refl
memory-length (scalar_register r x) l = refl
memory-length (memory_byte a x) l = length-set l a x

-- ---- which elements a change leaves alone

-- no register of these groups is changed
abbrev pub Avoids : ℕ → Change → List Group → Type 0
Avoids vlenb (register_byte k x) groups = any_of (has_register (k / vlenb)) groups ≡ false
Avoids vlenb (scalar_register r x) groups = Unit {0}
Avoids vlenb (memory_byte a x) groups = Unit {0}

module _ (vlenb : ℕ) where
  pub avoids-first : (c : Change) (xs ys : List Group) → Avoids vlenb c (xs ++ ys) → Avoids vlenb c xs
  avoids-first (register_byte k x) xs ys h = any-first (has_register (k / vlenb)) xs ys h
  avoids-first (scalar_register r x) xs ys h = tt
  avoids-first (memory_byte a x) xs ys h = tt

  pub avoids-rest : (c : Change) (xs ys : List Group) → Avoids vlenb c (xs ++ ys) → Avoids vlenb c ys
  avoids-rest (register_byte k x) xs ys h = any-rest (has_register (k / vlenb)) xs ys h
  avoids-rest (scalar_register r x) xs ys h = tt
  avoids-rest (memory_byte a x) xs ys h = tt

-- an element is read as before, and written before or after the change
pub record ElementKept (vlenb : ℕ) (c : Change) (reg eew i : ℕ) : Type 0 where
  pub read : (file : List ℕ) → element_at vlenb (changed_registers c file) reg eew i ≡ element_at vlenb file reg eew i
  pub written : (file : List ℕ) (x : ℕ)
      → with_element vlenb (changed_registers c file) reg eew i x ≡ changed_registers c (with_element vlenb file reg eew i x)

abbrev pub ReadKept : ℕ → Change → Read → ℕ → Type 0
ReadKept vlenb c r i = (file : List ℕ) → value_of vlenb (changed_registers c file) r i ≡ value_of vlenb file r i

-- ---- a group whose first n elements are contained in its registers, those of each field in the field's

pub record Contained (vlenb n : ℕ) (g : Group) : Type 0 where
  pub width : T (element_width g.eew)
  pub within : n * g.eew ≤ registers_of g * (8 * vlenb)

abbrev pub ReadContained : ℕ → ℕ → Read → Type 0
ReadContained vlenb n (R.Constant x) = Unit {0}
ReadContained vlenb n (R.Element g) = Contained vlenb n g
ReadContained vlenb n (R.Bit reg) = n ≤ 8 * vlenb

module _ (vlenb : ℕ) (v : 1 ≤ vlenb) (n : ℕ) where
  -- a register that is none of the group's
  outside : (m : ℕ) (g : Group) → has_register m g ≡ false → (m < g.reg) ⊎ (g.reg + span_of g ≤ m)
  outside m g h = ⊎_elim (λ t. inl (leb-false _ _ t)) (λ t. inr (ltb-false _ _ t)) (and_none _ _ h)

  -- byte k of the file, where its register is such
  group-clear : (g : Group) (k f i : ℕ) → Contained vlenb n g → has_register (k / vlenb) g ≡ false → f ≤ g.nf → i < n
      → Clear vlenb (field_group g f).reg g.eew i k
  group-clear g k f i m h l u =
      ⊎_elim
      (λ t. inr (omega (arith, place, less, mul-le-mul_right vlenb t)))
      (λ t. inl (omega (arith, place, m.within, here, mul-le-mul_right (8 * vlenb) (fields-before g f l), mul-le-mul_right (8 * vlenb) t)))
      (outside (k / vlenb) g h)
    where
      place : k / vlenb * vlenb + k % vlenb ≡ k
      place = div-add-mod' k vlenb

      less : k % vlenb < vlenb
      less = mod-lt k v

      here : (i + 1) * g.eew ≤ n * g.eew
      here = mul-le-mul_right g.eew (omega arith)

  pub element-kept : (c : Change) (g : Group) (f i : ℕ) → Contained vlenb n g → Avoids vlenb c (g ∷ []) → f ≤ g.nf → i < n
      → ElementKept vlenb c (field_group g f).reg g.eew i
  element-kept (register_byte k y) g f i m h l u =
      let clear = group-clear g k f i m (or-none (has_register (k / vlenb) g) false h).0 l u in
      record {
        read = λ file. element-set vlenb file k y (field_group g f).reg g.eew i m.width clear;
        written = λ file x. with_element-set vlenb file k y (field_group g f).reg g.eew i x m.width clear;
      }
  element-kept (scalar_register r x) g f i m h l u = record { read = λ file. refl; written = λ file x. refl }
  element-kept (memory_byte a x) g f i m h l u = record { read = λ file. refl; written = λ file x. refl }

  -- of the first field, or the only one
  pub first-kept : (c : Change) (g : Group) (i : ℕ) → Contained vlenb n g → Avoids vlenb c (g ∷ []) → i < n
      → ElementKept vlenb c g.reg g.eew i
  first-kept c g i m h u =
      let first : (field_group g 0).reg ≡ g.reg = omega arith in
      subst (λ reg. ElementKept vlenb c reg g.eew i) first (element-kept c g 0 i m h (omega arith) u)

  pub bit-contained : (reg : ℕ) → n ≤ 8 * vlenb → Contained vlenb n (mask_group reg)
  bit-contained reg h = record { width = tt; within = omega arith }

  pub read_kept : (c : Change) (r : Read) (i : ℕ) → ReadContained vlenb n r → Avoids vlenb c (registers_read r) → i < n
      → ReadKept vlenb c r i
  unfolding value_of
  read_kept c (R.Constant x) i m h u = λ file. refl
  read_kept c (R.Element g) i m h u = (first-kept c g i m h u).read
  read_kept c (R.Bit reg) i m h u = (first-kept c (mask_group reg) i (bit-contained reg m) h u).read
