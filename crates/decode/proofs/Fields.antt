-- Every field of a decoded word is in range.
use Prim.Native.Nat.{ℕ, ◌<◌, ◌+◌, ◌%◌, ◌^◌}
use mathlib.Core.Path.{◌≡◌, refl, sym, subst, ◌∙◌}
use mathlib.Core.Bool.{Bool, true, false, true≢false, ◌&&◌, ◌||◌}
use mathlib.Core.List.{List, [], ◌∷◌}
use mathlib.Core.Logic.{inl, inr, ⊎_elim}
use native.Mathlib.Omega.{arith}
use lib.Dec.{eqb}
use types.Run.{OneOf}
use borrow.Author.Tests.{eqb-true}
use Rattle.laws.proofs.Apart.{both_left, both_right, or_cases}
use Rattle.laws.proofs.Chain.{either, or_left, or_right}
use Rattle.operation.specs.declared.Op.TheVariants.{Vmv}
use Rattle.operation.specs.declared.Size.{Size}
use Rattle.operation.specs.declared.Size.TheVariants.{Absent, Bit, Eighth, Quarter, Half, Single, Double}
use Rattle.operation.specs.Shape.{shape_of}
use Rattle.decode.specs.declared.Mode.{Mode}
use Rattle.decode.specs.declared.Instruction.{Instruction}
use Rattle.decode.specs.declared.Instruction.TheVariants as I
use Rattle.decode.specs.declared.Entry.{Entry}
use Rattle.decode.specs.declared.Entry.TheVariants.{Reserved, Operation, OnMask, Reduces, MergeOrMove, Vxunary0, Vwxunary0, Vmunary0}
use Rattle.decode.specs.declared.Entry.TheVariants.{Permutes, Packs, MovesScalar, Setting}
use Rattle.decode.specs.declared.ScalarMoveOp.{ScalarMoveOp}
use Rattle.decode.specs.declared.ScalarMoveOp.TheVariants.{VmvXS, VmvSX}
use Rattle.decode.specs.Word.{funct3, funct6, rs2, vm, masked, vm_fits, source_of, scalar_move_of, resolved_of, named_of, arithmetic_of}
use Rattle.decode.specs.Word.{avl_of, setting_of, width_of, access, mask_of, whole_count, whole_of, unit_of, memory_of, decode_of}
use Rattle.decode.specs.Listing.{Row, listing, find, keep, in_column, entry_of}
use Rattle.decode.specs.Fields.{SourceFits, SizeFits, AvlFits, ModeFits, Fits}

five-bits : (n : ℕ) → n % 32 < 32
five-bits n = omega arith

ten-bits : (n : ℕ) → n % 2 ^ 10 < 2 ^ 11
ten-bits n = omega arith

eleven-bits : (n : ℕ) → n % 2 ^ 11 < 2 ^ 11
eleven-bits n = omega arith

-- ---- setting

avl-fits : (w : ℕ) → AvlFits (avl_of w)
unfolding avl_of
avl-fits w = search (either AvlFits, five-bits)

setting-fits : (w : ℕ) → Fits (setting_of w)
unfolding setting_of
setting-fits w = search (either Fits, avl-fits, five-bits, ten-bits, eleven-bits)

-- ---- arithmetic

source_fits : (w : ℕ) → SourceFits (source_of w)
unfolding source_of
source_fits w = search (either SourceFits, five-bits)

-- what stands in the listing's columns of scalars and immediates

abbrev is_single : Size → Bool
is_single Absent = false
is_single Bit = false
is_single Eighth = false
is_single Quarter = false
is_single Half = false
is_single Single = true
is_single Double = false

single : (z : Size) → is_single z ≡ true → z ≡ Single
single Absent h = cc
single Bit h = cc
single Eighth h = cc
single Quarter h = cc
single Half h = cc
single Single h = refl
single Double h = cc

abbrev takes_number : Entry → Bool
takes_number Reserved = true
takes_number (Operation op) = is_single (shape_of op).vs1
takes_number (OnMask op) = true
takes_number (Reduces op) = true
takes_number (Permutes op) = true
takes_number (Packs op) = true
takes_number (MovesScalar op) = true
takes_number MergeOrMove = true
takes_number Vxunary0 = false
takes_number Vwxunary0 = false
takes_number Vmunary0 = false
takes_number Setting = true

abbrev all_take : List Row → Bool
all_take [] = true
all_take (r ∷ rs) = takes_number r.entry && all_take rs

find-all : (rs : List Row) (k : ℕ) → all_take rs ≡ true → takes_number (find rs k) ≡ true
unfolding find
find-all [] k h = refl
find-all (r ∷ rs) k h =
    either (λ (e : Entry). takes_number e ≡ true) (eqb k r.number) r.entry (find rs k)
    (λ t. both_left (takes_number r.entry) (all_take rs) h) (λ t. find-all rs k (both_right (takes_number r.entry) (all_take rs) h))

-- funct3 of OPIVI, OPIVX and OPMVX
abbrev of_number : ℕ → Bool
of_number f = eqb f 3 || (eqb f 4 || eqb f 6)

column : (f k : ℕ) → of_number f ≡ true → takes_number (entry_of f k) ≡ true
unfolding entry_of listing
column f k h =
    let P : ℕ → Type 0 = λ n. takes_number (entry_of n k) ≡ true in
    ⊎_elim (λ t. subst P (sym (eqb-true f 3 t)) (find-all (keep (in_column 3) listing) k refl))
    (λ h. ⊎_elim (λ t. subst P (sym (eqb-true f 4 t)) (find-all (keep (in_column 4) listing) k refl))
    (λ t. subst P (sym (eqb-true f 6 t)) (find-all (keep (in_column 6) listing) k refl))
    (or_cases (eqb f 4) _ h))
    (or_cases (eqb f 3) _ h)

resolved : (e : Entry) (w : ℕ) → takes_number e ≡ true → takes_number (resolved_of e w) ≡ true
unfolding resolved_of
resolved Reserved w h = h
resolved (Operation op) w h = h
resolved (OnMask op) w h = h
resolved (Reduces op) w h = h
resolved (Permutes op) w h = h
resolved (Packs op) w h = h
resolved (MovesScalar op) w h = h
resolved MergeOrMove w h =
    let P : Entry → Type 0 = λ e. takes_number e ≡ true in
    either P (masked w) _ _ (λ t. refl) (λ t. either P (eqb (rs2 w) 0) (Operation Vmv) Reserved (λ t. refl) (λ t. refl))
resolved Vxunary0 w h = cc
resolved Vwxunary0 w h = cc
resolved Vmunary0 w h = cc
resolved Setting w h = h

source-sized : (z : Size) (w : ℕ) → (of_number (funct3 w) ≡ true → z ≡ Single) → SizeFits z (source_of w)
unfolding source_of
source-sized z w f =
    either (SizeFits z) (eqb (funct3 w) 3) _ _ (λ t. f (or_left (eqb (funct3 w) 3) _ t))
    (λ n. either (SizeFits z) (eqb (funct3 w) 4 || eqb (funct3 w) 6) _ _ (λ t. f (or_right (eqb (funct3 w) 3) _ n t)) (λ t. tt))

move-fits : (op : ScalarMoveOp) (w : ℕ) → Fits (scalar_move_of op w)
move-fits VmvXS w = search (either Fits, five-bits)
move-fits VmvSX w = search (either Fits, five-bits)

named-fits : (e : Entry) (w : ℕ) → (of_number (funct3 w) ≡ true → takes_number e ≡ true) → Fits (named_of e w)
named-fits Reserved w f = tt
named-fits (Operation op) w f =
    either Fits (vm_fits (shape_of op).v0 (vm w)) _ I.Illegal
    (λ t. record {
      vd = five-bits _;
      vs2 = five-bits _;
      source = source_fits w;
      size = source-sized (shape_of op).vs1 w (λ n. single (shape_of op).vs1 (f n));
    })
    (λ t. tt)
named-fits (OnMask op) w f = search five-bits
named-fits (Reduces op) w f = search five-bits
named-fits (Permutes op) w f = search (either Fits, five-bits, source_fits)
named-fits (Packs op) w f = search (either Fits, five-bits)
named-fits (MovesScalar op) w f = move-fits op w
named-fits MergeOrMove w f = tt
named-fits Vxunary0 w f = tt
named-fits Vwxunary0 w f = tt
named-fits Vmunary0 w f = tt
named-fits Setting w f = setting-fits w

arithmetic-fits : (w : ℕ) → Fits (arithmetic_of w)
unfolding arithmetic_of
arithmetic-fits w =
    named-fits (resolved_of (entry_of (funct3 w) (funct6 w)) w) w
    (λ n. resolved (entry_of (funct3 w) (funct6 w)) w (column (funct3 w) (funct6 w) n))

-- ---- loads and stores

abbrev Width : ℕ → Type 0
Width n = eqb n 0 ≡ false → OneOf (8 ∷ 16 ∷ 32 ∷ 64 ∷ []) n

no-width : Width 0
no-width e = absurd (true≢false e)

width_fits : (f : ℕ) → Width (width_of f)
unfolding width_of
width_fits f = search (either Width, no-width, inl, inr) depth 7

-- nf is one less than the number of whole registers
abbrev Count : ℕ → Type 0
Count n = OneOf (1 ∷ 2 ∷ 4 ∷ 8 ∷ []) (n + 1)

-- a number that one of some tests finds
found : (P : ℕ → Type 0) (k n : ℕ) {b : Bool} → (b ≡ true → P k) → P n → (b || eqb k n) ≡ true → P k
found P k n f p h = ⊎_elim f (λ e. subst P (sym (eqb-true k n e)) p) (or_cases _ (eqb k n) h)

count_fits : (n : ℕ) → whole_count n ≡ true → Count n
count_fits n =
    found Count n 7 (found Count n 3 (found Count n 1 (λ e. subst Count (sym (eqb-true n 0 e)) (inl refl)) (inr (inl refl)))
    (inr (inr (inl refl)))) (inr (inr (inr refl)))

middle : (p q r : Bool) → (p && q && r) ≡ true → q ≡ true
middle p q r h = both_right p q (both_left (p && q) r h)

left_false : (p q : Bool) → (p || q) ≡ false → p ≡ false
left_false true q h = h
left_false false q h = refl

module _ (store : Bool) (w : ℕ) (e : eqb (width_of (funct3 w)) 0 ≡ false) where
  access-fits : (mode : Mode) (further : ℕ) → ModeFits mode → Fits (access store mode further w)
  access-fits mode further m = search (width_fits, five-bits)

  unit-fits : Fits (unit_of store w)
  unfolding unit_of whole_of mask_of
  unit-fits = search (either Fits, access-fits, count_fits, middle) depth 7

memory-fits : (store : Bool) (w : ℕ) → Fits (memory_of store w)
unfolding memory_of
memory-fits store w = search (either Fits, unit-fits, access-fits, left_false, five-bits) depth 7

-- ---- every word

pub fits : (w : ℕ) → Fits (decode_of w)
unfolding decode_of
fits w = search (either Fits, arithmetic-fits, memory-fits)

-- what a decoded word is found to be, as in an arm of a `match` on it
pub arm-fits : (w : ℕ) (r i : Instruction) → r ≡ decode_of w → r ≡ i → Fits i
arm-fits w r i d e = subst Fits (sym d ∙ e) (fits w)
