-- For contracts of inner functions, not to be believed: one element in the code's terms, what it relies on, what it comes to and what it
-- leaves.
use Rattle.std.specs.Prelude.{◌≡◌, ℕ, zero, suc, ◌+◌, ◌*◌, ◌<◌, ◌≤◌, Bool, true, false, T, List, Result, Ok, Err, ⊤}
use Rattle.width.specs.Width.{Width}
use Rattle.alu.specs.Element.{Operands}
use Rattle.control.specs.declared.Board.{Board}
use Rattle.control.specs.declared.Control.{Control}
use Rattle.layout.specs.Layout.{byte_size, Inside}
use Rattle.group.specs.declared.Group.{Group}
use Rattle.group.specs.Group.{field_group, span_of}
use Rattle.plan.specs.declared.Read.{Read}
use Rattle.plan.specs.declared.Read.TheVariants as R
use Rattle.plan.specs.declared.Action.{Action}
use Rattle.plan.specs.declared.Action.TheVariants as A
use Rattle.plan.specs.declared.Compute.{Compute}
use Rattle.plan.specs.declared.Permute.{Permute}
use Rattle.plan.specs.declared.Elementwise.{Elementwise}
use Rattle.turn_theory.specs.Turn.{Effect, inactive, fault, write}
use Rattle.machine.specs.State.{Core}
use Rattle.access.specs.declared.Fault.{Fault}
use Rattle.machine.specs.Effect.{Write, put_all, value_of, effect_of}

-- an operand's element i lies inside a register file of so many bytes
unfoldable pub ReadInside : ℕ → ℕ → Read → ℕ → Type 0
ReadInside size vlenb (R.Constant n) i = Unit {0}
ReadInside size vlenb (R.Element g) i = Inside size vlenb g.reg g.eew i
ReadInside size vlenb (R.Bit reg) i = Inside size vlenb reg 1 i

-- element i of each field lies inside
abbrev pub FieldsInside : ℕ → ℕ → Group → ℕ → Type 0
FieldsInside size vlenb g i = (k : ℕ) → k ≤ g.nf → Inside size vlenb (field_group g k).reg g.eew i

-- element i of all operands lies inside, and so does its mask bit; no field has a register past v31
pub record Ready (size vlenb : ℕ) (e : Elementwise) (i : ℕ) : Type 0 where
  pub dest : FieldsInside size vlenb e.dest i
  pub ends : e.dest.reg + span_of e.dest ≤ 32
  pub vs2 : ReadInside size vlenb e.vs2 i
  pub vs1 : ReadInside size vlenb e.vs1 i
  pub vd : ReadInside size vlenb e.vd i
  pub v0 : ReadInside size vlenb e.v0 i
  pub mask : Inside size vlenb 0 1 i

-- a state by the parts that an element goes by
abbrev pub core_at : List ℕ → List ℕ → List ℕ → Control → Core
core_at registers memory scalars c = record { registers = registers; scalars = scalars; memory = memory; control = c }

-- the operands of an operation are such as it takes
abbrev pub OperandsFit : ℕ → List ℕ → Elementwise → Compute → ℕ → Type 0
OperandsFit vlenb file e k i =
    Operands k.op k.sew (value_of vlenb file e.vs2 i) (value_of vlenb file e.vs1 i) (value_of vlenb file e.v0 i)

-- element i of a permutation: every element of vs2 below VLMAX lies inside, and indices below it are small
pub record Permutable (size vlenb : ℕ) (e : Elementwise) (p : Permute) (i : ℕ) : Type 0 where
  pub width : Width p.sew
  pub here : i < p.vlmax
  pub most : p.vlmax ≤ 128
  pub elements : (k : ℕ) → k < p.vlmax → ReadInside size vlenb e.vs2 k

-- so they are, or an element to be moved has a size that there is
unfoldable pub ActionFits : ℕ → List ℕ → Elementwise → ℕ → Action → Type 0
ActionFits vlenb file e i (A.Compute k) = OperandsFit vlenb file e k i
ActionFits vlenb file e i (A.Permute p) = Permutable (32 * vlenb) vlenb e p i
ActionFits vlenb file e i (A.Transfer t) = T (byte_size t.bytes)

-- whether an effect is a fault, as the access test says it, and the state that it leaves
abbrev pub check_of : Effect Fault (List Write) → Result ⊤ Fault
check_of inactive = Ok tt
check_of (fault f) = Err f
check_of (write l) = Ok tt

abbrev pub state_after : ℕ → Effect Fault (List Write) → Core → Core
state_after vlenb inactive s = s
state_after vlenb (fault f) s = s
state_after vlenb (write l) s = put_all vlenb l s

-- an effect was carried out in place, from the state s to the state s'
pub record Did (vlenb : ℕ) (f : Effect Fault (List Write)) (s : Core) (r : Result ⊤ Fault) (s' : Core) : Type 0 where
  pub check : r ≡ check_of f
  pub state : s' ≡ state_after vlenb f s

-- the n elements of a plan from index i up were carried out one after the other in place, and none faulted
pub data Ran (b : Board) (rights : List ℕ) (e : Elementwise) (i : ℕ) (s : Core) : ℕ → Core → Type 0 where
  none : Ran b rights e i s zero s
  more : (n : ℕ) (s' s'' : Core) → Ran b rights e i s n s' → Did b.vlenb (effect_of b rights s' e (i + n)) s' (Ok tt) s''
      → Ran b rights e i s (suc n) s''

-- either they were, or nothing was touched
pub data Attempted (b : Board) (rights : List ℕ) (e : Elementwise) (i n : ℕ) (s : Core) : Bool → Core → Type 0 where
  done : (s' : Core) → Ran b rights e i s n s' → Attempted b rights e i n s true s'
  declined : Attempted b rights e i n s false s
