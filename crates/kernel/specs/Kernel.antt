-- For contracts of inner functions, not to be believed: what a kernel relies on and leaves.
use Rattle.std.specs.Prelude.{ℕ, ◌+◌, ◌*◌, ◌≤◌, ◌<◌, ◌≡◌, true, false, List, T}
use Rattle.fixed.specs.declared.Element.{Element}
use Rattle.fixed.specs.declared.Vxrm.TheVariants.{Rnu}
use Rattle.operation.specs.declared.Op.{Op}
use Rattle.operation.specs.declared.Op.TheVariants.{Vadd, Vsub, Vand, Vor, Vxor, Vmul, Vmacc}
use Rattle.operation.specs.Shape.{shape_of}
use Rattle.alu.specs.Element.{element_of}
use Rattle.control.specs.declared.Board.{Board}
use Rattle.control.specs.declared.Control.{Control}
use Rattle.layout.specs.Layout.{bytes_at, byte_size}
use Rattle.group.specs.declared.Group.{Group}
use Rattle.plan.specs.declared.Read.{Read}
use Rattle.plan.specs.declared.Read.TheVariants as R
use Rattle.plan.specs.declared.Action.TheVariants as A
use Rattle.plan.specs.declared.Compute.{Compute}
use Rattle.plan.specs.declared.Elementwise.{Elementwise}
use Rattle.machine.specs.Effect.{value_of}
use Rattle.execute.specs.Step.{Ready, core_at, Ran}
use Rattle.kernel.specs.declared.Stretch.{Stretch}
use Rattle.kernel.specs.declared.Kernelled.{Kernelled}
use Rattle.kernel.specs.declared.Kernelled.TheVariants as K
use Rattle.kernel.specs.declared.Source.{Source}
use Rattle.kernel.specs.declared.Source.TheVariants as S

-- ---- operations and operands

-- the operations that have a kernel
abbrev pub operation_at : Kernelled → Op
operation_at K.Add = Vadd
operation_at K.Sub = Vsub
operation_at K.And = Vand
operation_at K.Or = Vor
operation_at K.Xor = Vxor
operation_at K.Mul = Vmul
operation_at K.Macc = Vmacc

-- where in the register file the elements of an operand begin
abbrev pub start_of : ℕ → Read → ℕ
start_of vlenb (R.Constant x) = 0
start_of vlenb (R.Element g) = vlenb * g.reg
start_of vlenb (R.Bit reg) = vlenb * reg

abbrev pub source_of : ℕ → Read → Source
source_of vlenb (R.Constant x) = S.Scalar x
source_of vlenb (R.Element g) = S.Elements (vlenb * g.reg)
source_of vlenb (R.Bit reg) = S.Elements (vlenb * reg)

-- of the second operand: the element of n bytes that lies so many bytes from its first, or the scalar in its place
abbrev pub second_at : List ℕ → Source → ℕ → ℕ → ℕ
second_at file (S.Scalar x) n at = x
second_at file (S.Elements vs1) n at = bytes_at file (vs1 + at) n

-- such an element lies inside a file of so many bytes
abbrev pub SourceInside : ℕ → Source → ℕ → ℕ → Type 0
SourceInside size (S.Scalar x) n at = Unit {0}
SourceInside size (S.Elements vs1) n at = vs1 + at + n ≤ size

-- ---- a stretch

module _ (s : Stretch) (op : Op) (n : ℕ) where
  -- element i, by the file as it is; it goes by no rounding mode and no bit of v0
  abbrev pub lane_of : List ℕ → ℕ → Element
  lane_of file i =
      element_of (8 * n) Rnu (bytes_at file (s.vs2 + i * n) n) (second_at file s.vs1 n (i * n)) (bytes_at file (s.vd + i * n) n) 0 op

  -- stretch, operation and size say what a plan does
  pub record Described (vlenb : ℕ) (e : Elementwise) : Type 0 where
    pub compute : Compute
    pub action : e.action ≡ A.Compute compute
    pub unmasked : e.masked ≡ false
    pub dest : vlenb * e.dest.reg ≡ s.vd
    pub eew : e.dest.eew ≡ 8 * n
    pub element : (file : List ℕ) (i : ℕ)
        → element_of compute.sew compute.vxrm (value_of vlenb file e.vs2 i) (value_of vlenb file e.vs1 i)
        (value_of vlenb file e.vd i) (value_of vlenb file e.v0 i) compute.op
        ≡ lane_of file i

  -- so many elements of every plan of which they say so were carried out
  pub record Swept (count : ℕ) (file file' : List ℕ) : Type 0 where
    pub ran : (b : Board) (e : Elementwise) → Described b.vlenb e → (rights memory scalars : List ℕ) (c : Control)
        → Ran b rights e s.from (core_at file memory scalars c) count (core_at file' memory scalars c)

-- all elements lie inside a file of so many bytes
pub record Placed (size : ℕ) (s : Stretch) (n : ℕ) : Type 0 where
  pub bytes : T (byte_size n)
  pub ordered : s.from ≤ s.end
  pub vd : (i : ℕ) → s.from ≤ i → i < s.end → s.vd + i * n + n ≤ size
  pub vs2 : (i : ℕ) → s.from ≤ i → i < s.end → s.vs2 + i * n + n ≤ size
  pub vs1 : (i : ℕ) → s.from ≤ i → i < s.end → SourceInside size s.vs1 n (i * n)

-- ---- a plan

-- elements of so many bits
pub data Elements (sew : ℕ) : Read → Type 0 where
  elements : (g : Group) → g.eew ≡ sew → Elements sew (R.Element g)

-- or a scalar
pub data ElementsOrScalar (sew : ℕ) : Read → Type 0 where
  vector : (r : Read) → Elements sew r → ElementsOrScalar sew r
  scalar : (x : ℕ) → ElementsOrScalar sew (R.Constant x)

-- all operands have SEW bits
pub record SingleWidth (e : Elementwise) (k : Compute) : Type 0 where
  pub least : 8 ≤ k.sew
  pub dest : e.dest.eew ≡ k.sew
  pub vs2 : Elements k.sew e.vs2
  pub vs1 : ElementsOrScalar k.sew e.vs1
  pub vd : (shape_of k.op).accumulates ≡ true → e.vd ≡ R.Element e.dest

-- the elements from an index to an end of a plan that computes
pub record Computable (size vlenb : ℕ) (e : Elementwise) (k : Compute) (from end : ℕ) : Type 0 where
  pub action : e.action ≡ A.Compute k
  pub ready : (i : ℕ) → from ≤ i → i < end → Ready size vlenb e i
  pub single : (o : Kernelled) → from < end → k.op ≡ operation_at o → SingleWidth e k
