-- The largest SEW of an operation is at most 64.
use Prim.Native.Nat.{◌≤◌}
use lib.Dec.{lit≤}
use Rattle.operation.specs.declared.Op.{Op}
use Rattle.operation.specs.declared.Form.{Form}
use Rattle.operation.specs.declared.Form.TheVariants as F
use Rattle.operation.specs.Shape.{shape_at, form_of, largest_sew}

form-le : (f : Form) → (shape_at f).largest ≤ 64
form-le F.SingleWidth = lit≤ tt
form-le F.Shift = lit≤ tt
form-le F.High = lit≤ tt
form-le F.Widening = lit≤ tt
form-le F.WideFirst = lit≤ tt
form-le F.Narrowing = lit≤ tt
form-le F.FromHalf = lit≤ tt
form-le F.FromQuarter = lit≤ tt
form-le F.FromEighth = lit≤ tt
form-le F.Compare = lit≤ tt
form-le F.AddCarry = lit≤ tt
form-le F.CarryOut = lit≤ tt
form-le F.Merge = lit≤ tt
form-le F.Move = lit≤ tt
form-le F.MultiplyAdd = lit≤ tt
form-le F.WideningMultiplyAdd = lit≤ tt
form-le F.MaskLogical = lit≤ tt

pub largest-le : (o : Op) → largest_sew o ≤ 64
largest-le o = form-le (form_of o)
