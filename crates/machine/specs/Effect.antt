-- What one element does, by the state before (document 01, 'The definition': "The state before alone decides what each active one writes
-- and whether it faults or saturates").
use Rattle.std.specs.Prelude.{ℕ, zero, suc, ◌+◌, ◌-◌, ◌*◌, ◌%◌, ◌^◌, Bool, false, not, ◌||◌, cond, List, [], ◌∷◌, length, ltb, eqb}
use Rattle.std.specs.Prelude.{Result, Ok, Err, ⊤}
use Rattle.fixed.specs.declared.Element.{Element}
use Rattle.fixed.specs.Round.{exact}
use Rattle.alu.specs.Element.{element_of}
use Rattle.control.specs.declared.Board.{Board}
use Rattle.control.specs.declared.Control.{Control}
use Rattle.control.specs.Control.{with_vxsat}
use Rattle.decode.specs.declared.PermutationOp.{PermutationOp}
use Rattle.decode.specs.declared.PermutationOp.TheVariants.{Vid, Vslideup, Vslidedown, Vslide1up, Vslide1down, Vrgather, Vrgatherei16}
use Rattle.layout.specs.Layout.{bytes_at, with_bytes, element_at, with_element}
use Rattle.group.specs.declared.Group.{Group}
use Rattle.group.specs.Group.{nfields, field_group}
use Rattle.access.specs.declared.Fault.{Fault}
use Rattle.access.specs.Access.{field_address, fields_access}
use Rattle.plan.specs.declared.Read.{Read}
use Rattle.plan.specs.declared.Read.TheVariants as R
use Rattle.plan.specs.declared.Action.{Action}
use Rattle.plan.specs.declared.Action.TheVariants as A
use Rattle.plan.specs.declared.Compute.{Compute}
use Rattle.plan.specs.declared.Permute.{Permute}
use Rattle.plan.specs.declared.Transfer.{Transfer}
use Rattle.plan.specs.declared.Elementwise.{Elementwise}
use Rattle.turn_theory.specs.Turn.{Effect, inactive, fault, write}
use Rattle.machine.specs.State.{Core, with_registers, with_memory, with_control}

-- what is written in one place: element i of a group, or n bytes of memory at an address
pub data Write : Type 0 where
  to_registers : Group → ℕ → Element → Write
  to_memory : ℕ → ℕ → ℕ → Write

-- "vxsat becomes 1 if one saturates"
abbrev pub saturating : Bool → Control → Control
saturating sat c = with_vxsat c (cond sat 1 c.vxsat)

unfoldable pub put_of : ℕ → Write → Core → Core
put_of vlenb (to_registers g i r) s =
    with_control (saturating r.saturates s.control)
    (with_registers (with_element vlenb s.registers g.reg g.eew i r.value) s)
put_of vlenb (to_memory a n x) s = with_memory (with_bytes s.memory a n x) s

-- an element writes in one place, a segment in one for each field
unfoldable pub put_all : ℕ → List Write → Core → Core
put_all vlenb [] s = s
put_all vlenb (w ∷ others) s = put_all vlenb others (put_of vlenb w s)

-- an operand's element
unfoldable pub value_of : ℕ → List ℕ → Read → ℕ → ℕ
value_of vlenb file (R.Constant n) i = n
value_of vlenb file (R.Element g) i = element_at vlenb file g.reg g.eew i
value_of vlenb file (R.Bit reg) i = element_at vlenb file reg 1 i

-- an element is active unless v0 is the mask and its bit 0
abbrev pub active_of : ℕ → List ℕ → Bool → ℕ → Bool
active_of vlenb file masked i = not masked || eqb (element_at vlenb file 0 1 i) 1

-- "addresses modulo 2^64"; of a segment, that of its first field
abbrev pub element_address : Transfer → ℕ → ℕ → ℕ
element_address t i offset = (t.base + i * t.stride + offset) % 2 ^ 64

-- an access that is granted does what it is to do
abbrev pub if_granted : Result ⊤ Fault → Effect Fault (List Write) → Effect Fault (List Write)
if_granted (Ok tt) e = e
if_granted (Err f) e = fault f

-- an operation on the operands' elements
abbrev pub computing : ℕ → List ℕ → Elementwise → Compute → ℕ → Effect Fault (List Write)
computing vlenb file e k i =
    write (to_registers e.dest i
    (element_of k.sew k.vxrm
    (value_of vlenb file e.vs2 i)
    (value_of vlenb file e.vs1 i)
    (value_of vlenb file e.vd i)
    (value_of vlenb file e.v0 i)
    k.op) ∷ [])

-- element k of vs2: "Reads past VLMAX give 0" (A6; sections 17.3.2, 17.4), whatever vl is
abbrev pub vs2_at : ℕ → List ℕ → Read → ℕ → ℕ → ℕ
vs2_at vlenb file vs2 vlmax k = cond (ltb k vlmax) (value_of vlenb file vs2 k) 0

-- "a slide up leaves elements below its offset" x (A6; section 17.3.1)
abbrev pub stays_at : PermutationOp → ℕ → ℕ → Bool
stays_at Vid x i = false
stays_at Vslideup x i = ltb i x
stays_at Vslidedown x i = false
stays_at Vslide1up x i = false
stays_at Vslide1down x i = false
stays_at Vrgather x i = false
stays_at Vrgatherei16 x i = false

-- what element i of vl gets (sections 16.9, 17.3.1 to 17.3.4, 17.4), where `vs2 k` is element k of vs2, and x the offset, the index of this
-- element, or the scalar that is put in. A sum of indices does not wrap around
abbrev pub permuted_of : PermutationOp → ℕ → ℕ → (ℕ → ℕ) → ℕ → ℕ → ℕ
permuted_of Vid sew vl vs2 x i = i % 2 ^ sew
permuted_of Vslideup sew vl vs2 x i = vs2 (i - x)
permuted_of Vslidedown sew vl vs2 x i = vs2 (i + x)
permuted_of Vslide1up sew vl vs2 x i = cond (eqb i 0) x (vs2 (i - 1))
permuted_of Vslide1down sew vl vs2 x i = cond (eqb (i + 1) vl) x (vs2 (i + 1))
permuted_of Vrgather sew vl vs2 x i = vs2 x
permuted_of Vrgatherei16 sew vl vs2 x i = vs2 x

-- a permutation of the elements of vs2
abbrev pub permuting : ℕ → List ℕ → Elementwise → Permute → ℕ → Effect Fault (List Write)
permuting vlenb file e p i =
    let x : ℕ = value_of vlenb file e.vs1 i in
    cond (stays_at p.op x i) inactive
    (write (to_registers e.dest i
    (exact (permuted_of p.op p.sew e.end (vs2_at vlenb file e.vs2 p.vlmax) x i)) ∷ []))

-- one write for each of so many fields, from field k on
unfoldable pub each_field : (ℕ → Write) → ℕ → ℕ → List Write
each_field f k zero = []
each_field f k (suc others) = f k ∷ each_field f (suc k) others

-- field k of element i of the group g, where the first field lies at the address a: what a store stores of it, or a load loads
abbrev pub field_write : ℕ → List ℕ → List ℕ → Bool → Group → ℕ → ℕ → ℕ → ℕ → Write
field_write vlenb file memory store g n i a k =
    cond store (to_memory (field_address a n k) n (value_of vlenb file (R.Element (field_group g k)) i))
    (to_registers (field_group g k) i (exact (bytes_at memory (field_address a n k) n)))

-- element i, of each field: "a faulting segment moves nothing" (document 02, A1)
abbrev pub transferring : ℕ → List ℕ → Core → Bool → Group → ℕ → ℕ → ℕ → Effect Fault (List Write)
transferring vlenb rights s store g n i a =
    if_granted (fields_access rights (length s.memory) store a n 0 (nfields g))
    (write (each_field (field_write vlenb s.registers s.memory store g n i a) 0 (nfields g)))

module _ (b : Board) (rights : List ℕ) (s : Core) (e : Elementwise) (i : ℕ) where
  unfoldable pub acting_of : Action → Effect Fault (List Write)
  acting_of (A.Compute k) = computing b.vlenb s.registers e k i
  acting_of (A.Permute p) = permuting b.vlenb s.registers e p i
  acting_of (A.Transfer t) =
      transferring b.vlenb rights s t.store e.dest t.bytes i
      (element_address t i (value_of b.vlenb s.registers e.vs2 i))

  -- "Masked-off elements touch no memory and can't fault"
  unfoldable pub effect_of : Effect Fault (List Write)
  effect_of = cond (active_of b.vlenb s.registers e.masked i) (acting_of e.action) inactive
