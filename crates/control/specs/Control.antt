-- The control record: reset, the record after a setting instruction (document 01, 'Setting the vector type'), and which records can be.
use Rattle.std.specs.Prelude.{ℕ, ◌*◌, min, Bool, not, ◌&&◌, cond, List, [], ◌∷◌, Option, Some, None, get_or, ltb, leb, eqb}
use Rattle.control.specs.declared.Board.{Board}
use Rattle.control.specs.declared.Control.{Control}
use Rattle.control.specs.Vtype.{vill, vlmax_of, supported_of}

-- ---- the status field VS of mstatus (section 4.2; document 02, A8: "0 Off, 1 Initial, 2 Clean, 3 Dirty")

abbrev pub off : ℕ
off = 0

abbrev pub initial : ℕ
initial = 1

abbrev pub dirty : ℕ
dirty = 3

-- section 4.11; document 01: vtype is 2^63 (vill), all others 0; A8: VS is "1 at reset"
abbrev pub reset : Control
reset = record { vtype = vill; vl = 0; vstart = 0; vxrm = 0; vxsat = 0; vs = initial }

-- ---- the record with one thing changed; vtype and vl go together

abbrev pub with_vtype : Control → ℕ → ℕ → Control
with_vtype c v vl = record { vtype = v; vl = vl; vstart = c.vstart; vxrm = c.vxrm; vxsat = c.vxsat; vs = c.vs }

abbrev pub with_vstart : Control → ℕ → Control
with_vstart c i = record { vtype = c.vtype; vl = c.vl; vstart = i; vxrm = c.vxrm; vxsat = c.vxsat; vs = c.vs }

abbrev pub with_vxrm : Control → ℕ → Control
with_vxrm c rm = record { vtype = c.vtype; vl = c.vl; vstart = c.vstart; vxrm = rm; vxsat = c.vxsat; vs = c.vs }

abbrev pub with_vxsat : Control → ℕ → Control
with_vxsat c sat = record { vtype = c.vtype; vl = c.vl; vstart = c.vstart; vxrm = c.vxrm; vxsat = sat; vs = c.vs }

abbrev pub with_vs : Control → ℕ → Control
with_vs c v = record { vtype = c.vtype; vl = c.vl; vstart = c.vstart; vxrm = c.vxrm; vxsat = c.vxsat; vs = v }

abbrev pub dirtied : Control → Control
dirtied c = with_vs c dirty

-- VS is Off
abbrev pub is_off : Control → Bool
is_off c = eqb c.vs off

-- ---- the record as numbers, in this order: vtype, vl, vstart, vxrm, vxsat, vs

abbrev pub fields_of : Control → List ℕ
fields_of c = c.vtype ∷ c.vl ∷ c.vstart ∷ c.vxrm ∷ c.vxsat ∷ c.vs ∷ []

abbrev pub record_of : List ℕ → Control
record_of l =
    record { vtype = get_or l 0 0; vl = get_or l 1 0; vstart = get_or l 2 0; vxrm = get_or l 3 0; vxsat = get_or l 4 0; vs = get_or l 5 0 }

-- ---- setting

-- a setting instruction leaves vstart 0; vxrm, vxsat and VS stay
abbrev pub set_to : Control → ℕ → ℕ → Control
set_to c v vl = with_vstart (with_vtype c v vl) 0

-- "sets vtype to 2^63 and vl to 0"
abbrev pub vill_of : Control → Control
vill_of c = set_to c vill 0

-- "vl is kept if vill was clear and VLMAX stays"
abbrev pub keeps_of : Board → Control → ℕ → Bool
keeps_of b c v = not (eqb c.vtype vill) && eqb (vlmax_of b c.vtype) (vlmax_of b v)

-- the record after a setting instruction with the new vtype v (section 7); vl becomes the smaller of AVL and VLMAX, or with no AVL is kept
unfoldable pub set_of : Board → Control → ℕ → Option ℕ → Control
set_of b c v (Some avl) = cond (supported_of b v) (set_to c v (min avl (vlmax_of b v))) (vill_of c)
set_of b c v None = cond (supported_of b v && keeps_of b c v) (set_to c v c.vl) (vill_of c)

-- vtype is 2^63 with vl 0, or supported with vl at most VLMAX
unfoldable pub typed_well_of : Board → Control → Bool
typed_well_of b c = cond (eqb c.vtype vill) (eqb c.vl 0) (supported_of b c.vtype && leb c.vl (vlmax_of b c.vtype))

-- answer 36 where this is false: vstart has the bits of 0 .. VLEN - 1, vxrm 0 .. 3, vxsat 0 .. 1, VS 0 .. 3
unfoldable pub possible_of : Board → Control → Bool
possible_of b c =
    typed_well_of b c && (ltb c.vstart (8 * b.vlenb) && (leb c.vxrm 3 && (leb c.vxsat 1 && leb c.vs dirty)))
