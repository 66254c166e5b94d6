-- For contracts of inner functions, not to be believed: what the fields of a decoded word are within, registers and immediates below 32,
-- EEW 8 to 64, 1, 2, 4 or 8 whole registers.
use Rattle.std.specs.Prelude.{ℕ, ◌<◌, ◌^◌, [], ◌∷◌, ◌≡◌, cond, eqb, Option, Some, None}
use types.Run.{OneOf}
use Rattle.operation.specs.declared.Size.{Size}
use Rattle.operation.specs.declared.Size.TheVariants.{Single}
use Rattle.operation.specs.Shape.{shape_of}
use Rattle.decode.specs.declared.Source.{Source}
use Rattle.decode.specs.declared.Source.TheVariants.{Vector, Scalar, Immediate}
use Rattle.decode.specs.declared.AvlSource.{AvlSource}
use Rattle.decode.specs.declared.AvlSource.TheVariants.{Register, Number, Largest, Kept}
use Rattle.decode.specs.declared.TypeSource.{TypeSource}
use Rattle.decode.specs.declared.TypeSource.TheVariants.{Given, InRegister}
use Rattle.decode.specs.declared.Mode.{Mode}
use Rattle.decode.specs.declared.Mode.TheVariants as M
use Rattle.decode.specs.declared.Arithmetic.{Arithmetic}
use Rattle.decode.specs.declared.MaskInstruction.{MaskInstruction}
use Rattle.decode.specs.declared.ReductionInstruction.{ReductionInstruction}
use Rattle.decode.specs.declared.PermutationInstruction.{PermutationInstruction}
use Rattle.decode.specs.declared.PackInstruction.{PackInstruction}
use Rattle.decode.specs.declared.ScalarMoveInstruction.{ScalarMoveInstruction}
use Rattle.decode.specs.declared.Setting.{Setting}
use Rattle.decode.specs.declared.Access.{Access}
use Rattle.decode.specs.declared.Instruction.{Instruction}
use Rattle.decode.specs.declared.Instruction.TheVariants as I
use Rattle.decode.specs.Word.{funct3, width_of}

abbrev pub SourceFits : Source → Type 0
SourceFits (Vector r) = r < 32
SourceFits (Scalar r) = r < 32
SourceFits (Immediate x) = x < 32

-- a scalar or an immediate stands only for an operand of SEW bits
abbrev pub SizeFits : Size → Source → Type 0
SizeFits z (Vector r) = Unit {0}
SizeFits z (Scalar r) = z ≡ Single
SizeFits z (Immediate x) = z ≡ Single

pub record ArithmeticFits (a : Arithmetic) : Type 0 where
  pub vd : a.vd < 32
  pub vs2 : a.vs2 < 32
  pub source : SourceFits a.source
  pub size : SizeFits (shape_of a.op).vs1 a.source

pub record MaskFits (m : MaskInstruction) : Type 0 where
  pub rd : m.rd < 32
  pub vs2 : m.vs2 < 32

pub record ReductionFits (r : ReductionInstruction) : Type 0 where
  pub vd : r.vd < 32
  pub vs2 : r.vs2 < 32
  pub vs1 : r.vs1 < 32

pub record PermutationFits (p : PermutationInstruction) : Type 0 where
  pub vd : p.vd < 32
  pub vs2 : p.vs2 < 32
  pub source : SourceFits p.source

pub record PackFits (p : PackInstruction) : Type 0 where
  pub vd : p.vd < 32
  pub vs2 : p.vs2 < 32
  pub vs1 : p.vs1 < 32

pub record ScalarMoveFits (m : ScalarMoveInstruction) : Type 0 where
  pub vector : m.vector < 32
  pub scalar : m.scalar < 32

abbrev pub AvlFits : AvlSource → Type 0
AvlFits (Register r) = r < 32
AvlFits (Number x) = x < 32
AvlFits Largest = Unit {0}
AvlFits Kept = Unit {0}

abbrev pub TypeFits : TypeSource → Type 0
TypeFits (Given v) = v < 2 ^ 11
TypeFits (InRegister r) = r < 32

pub record SettingFits (s : Setting) : Type 0 where
  pub rd : s.rd < 32
  pub avl : AvlFits s.avl
  pub vtype : TypeFits s.vtype

abbrev pub ModeFits : Mode → Type 0
ModeFits M.UnitStride = Unit {0}
ModeFits (M.Strided r) = r < 32
ModeFits (M.Indexed r) = r < 32
ModeFits M.MaskBytes = Unit {0}
ModeFits (M.Whole n) = OneOf (1 ∷ 2 ∷ 4 ∷ 8 ∷ []) n

pub record AccessFits (a : Access) : Type 0 where
  pub mode : ModeFits a.mode
  pub eew : OneOf (8 ∷ 16 ∷ 32 ∷ 64 ∷ []) a.eew
  pub vd : a.vd < 32
  pub rs1 : a.rs1 < 32

abbrev pub Fits : Instruction → Type 0
Fits I.Illegal = Unit {0}
Fits (I.Arithmetic a) = ArithmeticFits a
Fits (I.Mask m) = MaskFits m
Fits (I.Reduction r) = ReductionFits r
Fits (I.Permutation p) = PermutationFits p
Fits (I.Pack p) = PackFits p
Fits (I.ScalarMove m) = ScalarMoveFits m
Fits (I.Setting s) = SettingFits s
Fits (I.Memory a) = AccessFits a

-- what an access that is there, or not, names
abbrev pub accessing : Option Access → Instruction
accessing None = I.Illegal
accessing (Some a) = I.Memory a

-- an instruction of a word whose width field is that of an integer
abbrev pub sized : ℕ → Instruction → Instruction
sized w i = cond (eqb (width_of (funct3 w)) 0) I.Illegal i
