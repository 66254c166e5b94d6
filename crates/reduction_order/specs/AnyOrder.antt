-- Why the order of a fold does not matter (document 02, A4). The definition goes upward from vs1[0]; for the eight reductions of one width any
-- other order gives the same, as section 15.1 has it: "sum( vs1[0] , vs2[*] )", whichever of them comes first.
use Rattle.std.specs.Prelude.{ℕ, ◌^◌, ◌<◌, ◌≡◌, get_or}
use mathlib.Core.List.{List, [], ◌∷◌, foldl, Perm}
use Rattle.operation.specs.declared.Size.TheVariants.{Single}
use Rattle.decode.specs.declared.ReductionOp.{ReductionOp}
use Rattle.decode.specs.declared.ReductionInstruction.{ReductionInstruction}
use Rattle.plan.specs.Plan.{scalar_size, reducing_of}
use Rattle.machine.specs.OneTurn.{joined_by, scalar_in, elements_in, reduction_of}

-- an operation on numbers of w bits that is associative and commutative
pub record Orderless (w : ℕ) (f : ℕ → ℕ → ℕ) : Type 0 where
  pub closed : (x y : ℕ) → x < 2 ^ w → y < 2 ^ w → f x y < 2 ^ w
  pub associative : (x y z : ℕ) → x < 2 ^ w → y < 2 ^ w → z < 2 ^ w → f (f x y) z ≡ f x (f y z)
  pub commutative : (x y : ℕ) → x < 2 ^ w → y < 2 ^ w → f x y ≡ f y x

-- numbers of w bits
abbrev pub Numbers : ℕ → List ℕ → Type 0
Numbers w [] = Unit {0}
Numbers w (x ∷ xs) = (x < 2 ^ w) × Numbers w xs

-- the eight that are not widening: scalars and elements have one width
abbrev pub OneWidth : ReductionOp → Type 0
OneWidth op = scalar_size op ≡ Single

pub record AnyOrder : Type 0 where
  -- each of the eight operators is associative and commutative, at every SEW
  pub operators : (op : ReductionOp) → OneWidth op → (w : ℕ) → Orderless w (joined_by op w)
  -- of such an operation, numbers folded in two orders give the same (`Perm`: the one list is the other in another order)
  pub folds : (w : ℕ) (f : ℕ → ℕ → ℕ) → Orderless w f → (x y : ℕ) (xs ys : List ℕ) → Numbers w (x ∷ xs) → Perm (x ∷ xs) (y ∷ ys)
      → foldl f x xs ≡ foldl f y ys
  -- so what a reduction of one width writes is the fold over vs1[0] and vs2[*] in any order, at every vtype, vl and file of bytes
  pub reductions : (vtype : ℕ) (a : ReductionInstruction) → OneWidth a.op → (vlenb vl : ℕ) (file : List ℕ)
      → ((k : ℕ) → get_or file k 0 < 2 ^ 8) → (y : ℕ) (ys : List ℕ)
      → Perm (scalar_in vlenb file (reducing_of vtype a) ∷ elements_in vlenb file (reducing_of vtype a) 0 vl) (y ∷ ys)
      → reduction_of vlenb file (reducing_of vtype a) vl ≡ foldl (joined_by a.op (reducing_of vtype a).sew) y ys
