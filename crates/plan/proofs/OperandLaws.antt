-- Operands, from what the code has computed: one law for each arm, over plain variables; and the bounds that they need.
use Prim.Native.Nat.{ℕ, ◌%◌, ◌^◌, ◌≤◌}
use mathlib.Core.Path.{◌≡◌, refl, sym, ap, subst, ◌∙◌}
use mathlib.Core.Logic.{◌⊎◌, ⊎_elim}
use mathlib.Core.Bool.{Bool, cond}
use mathlib.Core.List.{List}
use native.Mathlib.Omega.{arith}
use Rattle.width.specs.Width.{signed, wrap}
use Rattle.operation.specs.declared.Size.{Size}
use Rattle.operation.specs.declared.Size.TheVariants.{Absent, Bit, Eighth, Quarter, Half, Single, Double}
use Rattle.operation.specs.Shape.{eew_of}
use Rattle.laws.proofs.Chain.{case, arm}
use Rattle.control.specs.Vtype.{sew_of, lmul8_of}
use Rattle.control.proofs.Laws.{sew-ge, sew-le, lmul8-le}
use Rattle.decode.specs.declared.Source.{Source}
use Rattle.decode.specs.declared.Source.TheVariants.{Vector, Scalar, Immediate}
use Rattle.decode.specs.declared.PermutationOp.{PermutationOp}
use Rattle.group.specs.declared.Group.{Group}
use Rattle.plan.specs.declared.Read.{Read}
use Rattle.plan.specs.declared.Read.TheVariants as R
use Rattle.plan.specs.Plan.{scalar_of, group_at, read_at, second_of, index_of, moved_by}

-- ---- in the arm of a variant

-- a function of it, with an argument before it and one after it
pub between : {A B C D : Type 0} (f : B → A → C → D) (b : B) (a v : A) (c : C) (r : D) → a ≡ v → r ≡ f b v c → r ≡ f b a c
between f b = arm (f b)

-- what the variant k holds fits, since the whole does
pub variant_fits : {A B : Type 0} (F : A → Type 0) (k : B → A) (a : A) (b : B) → a ≡ k b → F a → F (k b)
variant_fits F k a b e f = subst F e f

-- ---- bounds of SEW, LMUL and EEW

pub sew-some : (v s : ℕ) → s ≡ sew_of v → 1 ≤ s
sew-some v s e = omega (arith, sew-ge v)

pub sew-most : (v s : ℕ) → s ≡ sew_of v → s ≤ 1024
sew-most v s e = omega (arith, sew-le v)

pub sew-small : (v s : ℕ) → s ≡ sew_of v → s ≤ 2048
sew-small v s e = omega (arith, sew-le v)

pub lmul8-most : (v m : ℕ) → m ≡ lmul8_of v → m ≤ 64
lmul8-most v m e = omega (arith, lmul8-le v)

eew-le : (z : Size) (s : ℕ) → s ≤ 1024 → eew_of z s ≤ 2048
eew-le Absent s h = omega arith
eew-le Bit s h = omega arith
eew-le Eighth s h = omega arith
eew-le Quarter s h = omega arith
eew-le Half s h = omega arith
eew-le Single s h = omega arith
eew-le Double s h = omega arith

pub eew-most : (v : ℕ) (z : Size) (s e : ℕ) → s ≡ sew_of v → e ≡ eew_of z s → e ≤ 2048
eew-most v z s e p q = subst (λ (n : ℕ). n ≤ 2048) (sym q) (eew-le z s (sew-most v s p))

-- ---- operands of a vector

-- in the arm of a size t that is a group's
pub in_group : (v reg s eew : ℕ) (z : Size) (g : Group)
    → (z ≡ Eighth) ⊎ ((z ≡ Quarter) ⊎ ((z ≡ Half) ⊎ ((z ≡ Single) ⊎ (z ≡ Double)))) → s ≡ sew_of v → eew ≡ eew_of z s
    → g ≡ group_at v eew reg → R.Element g ≡ read_at v z reg
unfolding read_at
in_group v reg s eew z g e p q h =
    ⊎_elim (is Eighth refl) (⊎_elim (is Quarter refl) (⊎_elim (is Half refl) (⊎_elim (is Single refl) (is Double refl)))) e
  where
    is : (t : Size) → R.Element (group_at v (eew_of t (sew_of v)) reg) ≡ read_at v t reg → z ≡ t → R.Element g ≡ read_at v z reg
    is t k e =
        between read_at v z t reg (R.Element g) e
        (ap R.Element (h ∙ ap (λ (n : ℕ). group_at v n reg) (q ∙ ap (eew_of z) p ∙ ap (λ (y : Size). eew_of y (sew_of v)) e)) ∙ k)

-- ---- the second source

pub vector-source : (x : List ℕ) (v : ℕ) (z : Size) (unsigned : Bool) (s : Source) (n : ℕ) (r : Read) → s ≡ Vector n → r ≡ read_at v z n
    → r ≡ second_of x v z unsigned s
unfolding second_of
vector-source x v z unsigned s n r e p = case (second_of x v z unsigned) s (Vector n) r e p

pub scalar-source : (x : List ℕ) (v : ℕ) (z : Size) (unsigned : Bool) (s : Source) (n sew w r : ℕ) → s ≡ Scalar n → sew ≡ sew_of v
    → w ≡ scalar_of x n → r ≡ w % 2 ^ sew
    → R.Constant r ≡ second_of x v z unsigned s
unfolding second_of
scalar-source x v z unsigned s n sew w r e p q h = case (second_of x v z unsigned) s (Scalar n) (R.Constant r) e (rw (h, q, p))

pub immediate-source : (x : List ℕ) (v : ℕ) (z : Size) (unsigned : Bool) (s : Source) (n sew r : ℕ) → s ≡ Immediate n → sew ≡ sew_of v
    → r ≡ cond unsigned n (wrap sew (signed 5 n))
    → R.Constant r ≡ second_of x v z unsigned s
unfolding second_of
immediate-source x v z unsigned s n sew r e p h = case (second_of x v z unsigned) s (Immediate n) (R.Constant r) e (rw (h, p))

-- ---- permutations

pub indexed : (x : List ℕ) (v eew : ℕ) (s t : Source) (r : Read) → s ≡ t → r ≡ index_of x v eew t → r ≡ index_of x v eew s
indexed x v eew = case (index_of x v eew)

pub moved-arm : (x : List ℕ) (v : ℕ) (op o : PermutationOp) (s : Source) (r : Read) → op ≡ o → r ≡ moved_by x v o s → r ≡ moved_by x v op s
moved-arm x v = arm (moved_by x v)

-- in the arm of an operation o that takes an index of SEW bits
pub moved-index : (x : List ℕ) (v sew : ℕ) (op o : PermutationOp) (s : Source) (r : Read) → op ≡ o → sew ≡ sew_of v → r ≡ index_of x v sew s
    → index_of x v (sew_of v) s ≡ moved_by x v o s → r ≡ moved_by x v op s
moved-index x v sew op o s r e p q k = moved-arm x v op o s r e (q ∙ ap (λ (n : ℕ). index_of x v n s) p ∙ k)
