-- Whether a plan is legal (sections 4.2, 6.2, 6.3, 8.8, 15 to 17; document 01, 'Words, groups and elements'; document 02, A1, A4, A5, A6,
-- A8).
use Rattle.std.specs.Prelude.{ℕ, ◌*◌, ◌/◌, Bool, true, false, not, ◌&&◌, ◌||◌, cond, List, [], ◌∷◌, ltb, leb, eqb}
use Rattle.operation.specs.Shape.{largest_sew}
use Rattle.control.specs.declared.Board.{Board}
use Rattle.control.specs.declared.Control.{Control}
use Rattle.control.specs.Vtype.{vill, sew_of}
use Rattle.control.specs.Control.{is_off}
use Rattle.decode.specs.declared.MaskOp.{MaskOp}
use Rattle.decode.specs.declared.MaskOp.TheVariants.{Vcpop, Vfirst, Vmsbf, Vmsof, Vmsif}
use Rattle.decode.specs.declared.MaskInstruction.{MaskInstruction}
use Rattle.decode.specs.declared.PermutationOp.{PermutationOp}
use Rattle.decode.specs.declared.PermutationOp.TheVariants.{Vid, Vslideup, Vslidedown, Vslide1up, Vslide1down, Vrgather, Vrgatherei16}
use Rattle.group.specs.declared.Group.{Group}
use Rattle.group.specs.Group.{mask_group, placed_of, apart_of, may_overlap_of, may_share_of, spares_v0}
use Rattle.plan.specs.declared.Read.{Read}
use Rattle.plan.specs.declared.Read.TheVariants as R
use Rattle.plan.specs.declared.Action.{Action}
use Rattle.plan.specs.declared.Action.TheVariants as A
use Rattle.plan.specs.declared.Elementwise.{Elementwise}
use Rattle.plan.specs.declared.Reduction.{Reduction}
use Rattle.plan.specs.declared.Packing.{Packing}
use Rattle.plan.specs.declared.OneTurn.{OneTurn}
use Rattle.plan.specs.declared.OneTurn.TheVariants as O
use Rattle.plan.specs.declared.Plan.{Plan}
use Rattle.plan.specs.declared.Plan.TheVariants as P
use Rattle.plan.specs.Sources.{sources_of}

-- "With vill set only setting instructions and whole-register loads and stores are legal. All others are illegal if vstart is 1024/SEW
-- or more": 1024 is 8 * VLEN
abbrev pub startable : Board → Control → Bool
startable b c = not (eqb c.vtype vill) && ltb c.vstart (64 * b.vlenb / sew_of c.vtype)

-- ---- instructions of elements

-- Slides up, gathers, viota.m and vcompress.vm are strict: the destination "cannot overlap" a source, not even of equal EEW (sections
-- 16.8, 17.3.1, 17.3.3, 17.4, 17.5)
abbrev pub overlap_fits : Bool → Group → Group → Bool
overlap_fits strict d s = apart_of d s || (not strict && may_overlap_of d s)

-- an operand is well placed and, beside a destination that is written, overlaps it only as it may
unfoldable pub read_fits : ℕ → Bool → Bool → Group → Read → Bool
read_fits elen writes strict d (R.Constant n) = true
read_fits elen writes strict d (R.Element g) = placed_of elen g && (not writes || overlap_fits strict d g)
read_fits elen writes strict d (R.Bit reg) = not writes || overlap_fits strict d (mask_group reg)

abbrev pub writes_registers : Action → Bool
writes_registers (A.Compute k) = true
writes_registers (A.Permute p) = true
writes_registers (A.Transfer t) = not t.store

-- slides down may write onto their source; vid.v has none
abbrev pub strictly : PermutationOp → Bool
strictly Vid = false
strictly Vslideup = true
strictly Vslidedown = false
strictly Vslide1up = true
strictly Vslide1down = false
strictly Vrgather = true
strictly Vrgatherei16 = true

abbrev pub is_strict : Action → Bool
is_strict (A.Compute k) = false
is_strict (A.Permute p) = strictly p.op
is_strict (A.Transfer t) = false

abbrev pub is_bit : Read → Bool
is_bit (R.Constant n) = false
is_bit (R.Element g) = false
is_bit (R.Bit reg) = true

-- destination and sources are well placed and overlap only as they may, and v0 is spared where it is the mask or an operand
unfoldable pub operands_fit : ℕ → Elementwise → Bool
operands_fit elen e =
    (eqb e.dest.eew 1 || placed_of elen e.dest)
    && (read_fits elen (writes_registers e.action) (is_strict e.action) e.dest e.vs2
    && (read_fits elen (writes_registers e.action) (is_strict e.action) e.dest e.vs1
    && (read_fits elen (writes_registers e.action) (is_strict e.action) e.dest e.vd
    && (not (writes_registers e.action) || spares_v0 (e.masked || is_bit e.v0) e.dest))))

-- an operation is there at this SEW (operation/specs/Shape, `largest`)
abbrev pub is_there : Action → Bool
is_there (A.Compute k) = leb k.sew (largest_sew k.op)
is_there (A.Permute p) = true
is_there (A.Transfer t) = true

unfoldable pub elements_legal : Board → Control → Elementwise → Bool
elements_legal b c e = (not e.typed || startable b c) && (is_there e.action && operands_fit b.elen e)

-- ---- instructions that take one turn

-- vcpop and vfirst write a scalar register, the others a mask
abbrev pub writes_mask : MaskOp → Bool
writes_mask Vcpop = false
writes_mask Vfirst = false
writes_mask Vmsbf = true
writes_mask Vmsof = true
writes_mask Vmsif = true

-- v0, where it is the mask, is not the destination
abbrev pub keeps_v0 : MaskInstruction → Bool
keeps_v0 m = not m.masked || not (eqb m.rd 0)

-- "vmsbf, vmsif, vmsof: no overlap with the source, nor with v0 if masked"
abbrev pub mask_apart : MaskInstruction → Bool
mask_apart m = not (writes_mask m.op) || (not (eqb m.rd m.vs2) && keeps_v0 m)

-- the scalars of a reduction, SEW or 2 * SEW bits wide, are at most ELEN wide; vs2 is a group as any other. "vs1 and vd are single registers
-- of any number", and "The destination may overlap any source, and v0 under a mask" (A4)
abbrev pub reduction_placed : ℕ → Reduction → Bool
reduction_placed elen r = leb r.vd.eew elen && placed_of elen r.vs2

-- viota.m and vcompress.vm: destination and elements are well placed, the destination overlaps neither them nor the mask that is counted,
-- "and, if masked, cannot overlap the mask register (v0)" (section 16.8)
abbrev pub packing_placed : ℕ → Packing → Bool
packing_placed elen p =
    placed_of elen p.vd
    && (read_fits elen true true p.vd p.elements
    && (read_fits elen true true p.vd (R.Bit p.mask)
    && spares_v0 p.masked p.vd))

-- those on masks (sections 16.2 to 16.6), the reductions (section 15), viota.m and vcompress.vm need vstart 0. "The scalar moves use
-- single registers of any number" (A6)
unfoldable pub one_turn_legal : Board → Control → OneTurn → Bool
one_turn_legal b c (O.Setting t) = true
one_turn_legal b c (O.Mask m) = startable b c && (eqb c.vstart 0 && mask_apart m)
one_turn_legal b c (O.Reduction r) = startable b c && (eqb c.vstart 0 && reduction_placed b.elen r)
one_turn_legal b c (O.Packing p) = startable b c && (eqb c.vstart 0 && packing_placed b.elen p)
one_turn_legal b c (O.ScalarMove m) = startable b c

-- ---- every plan

-- by its kind: every rule but that of the sources
unfoldable pub kind_legal : Board → Control → Plan → Bool
kind_legal b c P.Illegal = false
kind_legal b c (P.OneTurn t) = one_turn_legal b c t
kind_legal b c (P.Elements e) = elements_legal b c e

-- one source beside each of the others
abbrev pub may_share_each : Group → List Group → Bool
may_share_each s [] = true
may_share_each s (r ∷ others) = may_share_of s r && may_share_each s others

-- each two sources may overlap as they do, whatever vl, vstart and the mask's values are
unfoldable pub sources_fit : List Group → Bool
sources_fit [] = true
sources_fit (s ∷ others) = may_share_each s others && sources_fit others

-- VS Off "makes every vector word illegal", "before every other word check" (A8). The rule of the sources is "decided with the other word
-- checks" (A5)
unfoldable pub legal_of : Board → Control → Plan → Bool
legal_of b c p = not (is_off c) && (kind_legal b c p && sources_fit (sources_of p))

-- for the contract of an inner function, not to be believed: the plan where it is legal, and `Illegal` otherwise
abbrev pub checked_of : Board → Control → Plan → Plan
checked_of b c p = cond (legal_of b c p) p P.Illegal
