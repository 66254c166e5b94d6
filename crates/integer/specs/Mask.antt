-- The eight operations of section 16.1 of document 000, Vector Mask-Register Logical Instructions. vs2 and vs1 are mask bits, 0 or 1.
use Rattle.std.specs.Prelude.{ℕ, eqb, Bool, not, ◌&&◌, ◌||◌}
use Rattle.std.specs.Bool.{beq}
use Rattle.width.specs.Width.{flag}

-- whether a mask bit is set
abbrev pub is_set : ℕ → Bool
is_set x = eqb x 1

-- exclusive or
abbrev pub differ : Bool → Bool → Bool
differ a b = not (beq a b)

abbrev pub vmand : ℕ → ℕ → ℕ
vmand vs2 vs1 = flag (is_set vs2 && is_set vs1)

abbrev pub vmnand : ℕ → ℕ → ℕ
vmnand vs2 vs1 = flag (not (is_set vs2 && is_set vs1))

abbrev pub vmandn : ℕ → ℕ → ℕ
vmandn vs2 vs1 = flag (is_set vs2 && not (is_set vs1))

abbrev pub vmxor : ℕ → ℕ → ℕ
vmxor vs2 vs1 = flag (differ (is_set vs2) (is_set vs1))

abbrev pub vmor : ℕ → ℕ → ℕ
vmor vs2 vs1 = flag (is_set vs2 || is_set vs1)

abbrev pub vmnor : ℕ → ℕ → ℕ
vmnor vs2 vs1 = flag (not (is_set vs2 || is_set vs1))

abbrev pub vmorn : ℕ → ℕ → ℕ
vmorn vs2 vs1 = flag (is_set vs2 || not (is_set vs1))

abbrev pub vmxnor : ℕ → ℕ → ℕ
vmxnor vs2 vs1 = flag (not (differ (is_set vs2) (is_set vs1)))
