-- What an instruction reads from vector registers: its sources, as one list of groups (document 02, A5).
use Rattle.std.specs.Prelude.{Bool, cond, List, [], ◌∷◌, ◌++◌}
use Rattle.group.specs.declared.Group.{Group}
use Rattle.group.specs.Group.{mask_group}
use Rattle.plan.specs.declared.Read.{Read}
use Rattle.plan.specs.declared.Read.TheVariants as R
use Rattle.plan.specs.declared.Elementwise.{Elementwise}
use Rattle.decode.specs.declared.ScalarMoveOp.{ScalarMoveOp}
use Rattle.decode.specs.declared.ScalarMoveOp.TheVariants.{VmvXS, VmvSX}
use Rattle.plan.specs.declared.Reduction.{Reduction}
use Rattle.plan.specs.declared.Packing.{Packing}
use Rattle.plan.specs.declared.OneTurn.{OneTurn}
use Rattle.plan.specs.declared.OneTurn.TheVariants as O
use Rattle.plan.specs.declared.Plan.{Plan}
use Rattle.plan.specs.declared.Plan.TheVariants as P

-- the registers of an operand: none for a scalar or an immediate, a group, or a mask register, whose EEW is 1
abbrev pub registers_read : Read → List Group
registers_read (R.Constant n) = []
registers_read (R.Element g) = g ∷ []
registers_read (R.Bit reg) = mask_group reg ∷ []

-- v0: the mask where the instruction is masked, and otherwise the operand that it may be (in vadc, vsbc, vmadc, vmsbc, vmerge)
abbrev pub v0_source : Bool → Read → Read
v0_source masked operand = cond masked (R.Bit 0) operand

-- vs2, which is the index group of an indexed access; vs1; vd where it is read ("an accumulator that is read counts as a source"), which
-- is what a store stores; v0
unfoldable pub element_sources : Elementwise → List Group
element_sources e =
    registers_read e.vs2 ++ registers_read e.vs1 ++ registers_read e.vd ++ registers_read (v0_source e.masked e.v0)

-- reductions read vs2, vs1 and, where they are masked, v0; vd is written and not read
unfoldable pub reduction_sources : Reduction → List Group
reduction_sources r = r.vs2 ∷ r.vs1 ∷ registers_read (v0_source r.masked (R.Constant 0))

-- viota.m and vcompress.vm read a mask, the elements that are packed and, where they are masked, v0
unfoldable pub packing_sources : Packing → List Group
packing_sources p =
    registers_read p.elements ++ registers_read (R.Bit p.mask) ++ registers_read (v0_source p.masked (R.Constant 0))

-- vmv.x.s reads its vector register; vmv.s.x writes it
abbrev pub moved_register : ScalarMoveOp → Group → Read
moved_register VmvXS g = R.Element g
moved_register VmvSX g = R.Constant 0

-- setting instructions read no vector register; those on masks read vs2 and, where they are masked, v0
abbrev pub one_turn_sources : OneTurn → List Group
one_turn_sources (O.Setting t) = []
one_turn_sources (O.Mask m) = registers_read (R.Bit m.vs2) ++ registers_read (v0_source m.masked (R.Constant 0))
one_turn_sources (O.Reduction r) = reduction_sources r
one_turn_sources (O.Packing p) = packing_sources p
one_turn_sources (O.ScalarMove m) = registers_read (moved_register m.op m.vector)

unfoldable pub sources_of : Plan → List Group
sources_of P.Illegal = []
sources_of (P.OneTurn t) = one_turn_sources t
sources_of (P.Elements e) = element_sources e
