-- What an instruction reads and writes, its footprint (document 02, A12: "vector registers the instruction neither reads nor writes, scalar
-- registers it doesn't name, and memory bytes that none of its active elements addresses").
use Rattle.std.specs.Prelude.{ℕ, zero, suc, ◌+◌, ◌-◌, Bool, false, ◌&&◌, ◌||◌, cond, List, [], ◌∷◌, ◌++◌, ltb, leb, eqb}
use Rattle.control.specs.declared.Board.{Board}
use Rattle.decode.specs.declared.Source.{Source}
use Rattle.decode.specs.declared.Source.TheVariants.{Vector, Scalar, Immediate}
use Rattle.decode.specs.declared.AvlSource.{AvlSource}
use Rattle.decode.specs.declared.AvlSource.TheVariants.{Register, Number, Largest, Kept}
use Rattle.decode.specs.declared.TypeSource.{TypeSource}
use Rattle.decode.specs.declared.TypeSource.TheVariants.{Given, InRegister}
use Rattle.decode.specs.declared.Mode.{Mode}
use Rattle.decode.specs.declared.Mode.TheVariants.{UnitStride, Strided, Indexed, MaskBytes, Whole}
use Rattle.decode.specs.declared.Instruction.{Instruction}
use Rattle.decode.specs.declared.Instruction.TheVariants as I
use Rattle.group.specs.declared.Group.{Group}
use Rattle.group.specs.Group.{mask_group, nfields, span_of}
use Rattle.access.specs.Access.{field_address}
use Rattle.plan.specs.declared.Action.{Action}
use Rattle.plan.specs.declared.Action.TheVariants as A
use Rattle.plan.specs.declared.Transfer.{Transfer}
use Rattle.plan.specs.declared.Elementwise.{Elementwise}
use Rattle.plan.specs.declared.OneTurn.{OneTurn}
use Rattle.plan.specs.declared.OneTurn.TheVariants as O
use Rattle.plan.specs.declared.Plan.{Plan}
use Rattle.plan.specs.declared.Plan.TheVariants as P
use Rattle.plan.specs.Sources.{sources_of}
use Rattle.legality.specs.Legal.{writes_mask}
use Rattle.machine.specs.State.{State}
use Rattle.machine.specs.Effect.{value_of, active_of, element_address}

-- one of a list passes a test
abbrev pub any_of : {A : Type 0} → (A → Bool) → List A → Bool
any_of test [] = false
any_of test (x ∷ others) = test x || any_of test others

-- one of the n numbers from i up does
unfoldable pub any_from : (ℕ → Bool) → ℕ → ℕ → Bool
any_from test i zero = false
any_from test i (suc n) = test i || any_from test (suc i) n

-- ---- "vector registers the instruction neither reads nor writes"

-- what an instruction that takes one turn writes: a mask, one register, or a group. vcpop.m, vfirst.m and setting instructions write a
-- scalar register. The vector register of a scalar move is written or read
abbrev pub one_turn_destinations : OneTurn → List Group
one_turn_destinations (O.Setting t) = []
one_turn_destinations (O.Mask m) = cond (writes_mask m.op) (mask_group m.rd ∷ []) []
one_turn_destinations (O.Reduction r) = r.vd ∷ []
one_turn_destinations (O.Packing p) = p.vd ∷ []
one_turn_destinations (O.ScalarMove m) = m.vector ∷ []

-- the destination; of a store it is what is stored
abbrev pub destinations_of : Plan → List Group
destinations_of P.Illegal = []
destinations_of (P.OneTurn t) = one_turn_destinations t
destinations_of (P.Elements e) = e.dest ∷ []

-- register n is one of the group's, in any of its fields, also where it holds elements past vl alone
abbrev pub has_register : ℕ → Group → Bool
has_register n g = leb g.reg n && ltb n (g.reg + span_of g)

-- register n is one of a source's (document 02, A5) or of the destination's. "v0 counts as read under a mask": it is a source where it is
-- the mask or an operand
unfoldable pub uses_register : Plan → ℕ → Bool
uses_register p n = any_of (has_register n) (sources_of p ++ destinations_of p)

-- ---- "scalar registers it doesn't name": not a field that is a vector register or a number. x0 can be named as any other

abbrev pub source_scalars : Source → List ℕ
source_scalars (Vector r) = []
source_scalars (Scalar r) = r ∷ []
source_scalars (Immediate n) = []

-- rs1 of vsetvli and vsetvl, which is x0 where AVL is the largest or vl is kept; vsetivli has a number there
abbrev pub avl_scalars : AvlSource → List ℕ
avl_scalars (Register r) = r ∷ []
avl_scalars (Number n) = []
avl_scalars Largest = 0 ∷ []
avl_scalars Kept = 0 ∷ []

-- rs2 of vsetvl
abbrev pub type_scalars : TypeSource → List ℕ
type_scalars (Given v) = []
type_scalars (InRegister r) = r ∷ []

-- rs2 of a strided access
abbrev pub mode_scalars : Mode → List ℕ
mode_scalars UnitStride = []
mode_scalars (Strided r) = r ∷ []
mode_scalars (Indexed r) = []
mode_scalars MaskBytes = []
mode_scalars (Whole n) = []

-- rd, rs1 and rs2 where the instruction has them
unfoldable pub scalars_of : Instruction → List ℕ
scalars_of I.Illegal = []
scalars_of (I.Arithmetic a) = source_scalars a.source
scalars_of (I.Mask m) = cond (writes_mask m.op) [] (m.rd ∷ [])
scalars_of (I.Reduction a) = []
scalars_of (I.Permutation a) = source_scalars a.source
scalars_of (I.Pack a) = []
scalars_of (I.ScalarMove a) = a.scalar ∷ []
scalars_of (I.Setting t) = t.rd ∷ avl_scalars t.avl ++ type_scalars t.vtype
scalars_of (I.Memory a) = a.rs1 ∷ mode_scalars a.mode

unfoldable pub names_scalar : Instruction → ℕ → Bool
names_scalar i r = any_of (eqb r) (scalars_of i)

-- ---- "memory bytes that none of its active elements addresses": from the vstart of the state s up to the end, active by its mask, where
-- its offsets have them lie

module _ (b : Board) (s : State) (e : Elementwise) (t : Transfer) where
  -- where field k of element i begins; what is no segment has one field
  abbrev pub field_at : ℕ → ℕ → ℕ
  field_at i k = field_address (element_address t i (value_of b.vlenb s.registers e.vs2 i)) t.bytes k

  -- byte a is one of a field of element i
  abbrev pub element_addresses : ℕ → ℕ → Bool
  element_addresses a i = any_from (λ k. leb (field_at i k) a && ltb a (field_at i k + t.bytes)) 0 (nfields e.dest)

  -- and of one that is active
  abbrev pub transfer_addresses : ℕ → Bool
  transfer_addresses a =
      any_from (λ i. active_of b.vlenb s.registers e.masked i && element_addresses a i) s.control.vstart
      (e.end - s.control.vstart)

-- loads and stores alone address memory
unfoldable pub action_addresses : Board → State → Elementwise → Action → ℕ → Bool
action_addresses b s e (A.Compute k) a = false
action_addresses b s e (A.Permute p) a = false
action_addresses b s e (A.Transfer t) a = transfer_addresses b s e t a

abbrev pub addresses_byte : Board → State → Plan → ℕ → Bool
addresses_byte b s P.Illegal a = false
addresses_byte b s (P.OneTurn t) a = false
addresses_byte b s (P.Elements e) a = action_addresses b s e e.action a
