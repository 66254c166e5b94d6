-- Register groups (sections 4.4.2, 6.2, 6.3 and 8.8 of document 000; document 01, 'Words, groups and elements'; document 02, A1 and A5).
use Rattle.std.specs.Prelude.{ℕ, suc, ◌+◌, ◌*◌, ◌/◌, ◌%◌, max, Bool, not, ◌&&◌, ◌||◌, ltb, leb, eqb}
use Rattle.group.specs.declared.Group.{Group}

-- 8 * EMUL, where EMUL = EEW / SEW * LMUL; 0 where that is below 1/8
unfoldable pub emul8_of : ℕ → ℕ → ℕ → ℕ
emul8_of sew lmul8 eew = eew * lmul8 / sew

-- masks have EEW 1, lie in one register and are outside the EMUL rule; EMUL counts as below 1, so that no wider destination overlaps one
abbrev pub mask_group : ℕ → Group
mask_group reg = record { reg = reg; eew = 1; emul8 = 1; nf = 0 }

-- how many registers a group has, or each of its fields: EMUL, or 1 where that is less
abbrev pub registers_of : Group → ℕ
registers_of g = max 1 (g.emul8 / 8)

-- NFIELDS, the number of fields of a segment: nf "contains one less" (section 8.8). What is no segment has one field
abbrev pub nfields : Group → ℕ
nfields g = suc g.nf

-- "Each field will be held in successively numbered vector register groups" (section 8.8): field k, and how many registers all of them have
abbrev pub field_group : Group → ℕ → Group
field_group g k = record { reg = g.reg + k * registers_of g; eew = g.eew; emul8 = g.emul8; nf = 0 }

abbrev pub span_of : Group → ℕ
span_of g = nfields g * registers_of g

-- EEW lies in 8 to ELEN, EMUL is at least 1/8 and "EMUL times fields is at most 8" (A1), a fraction counted as such; the group starts at a
-- multiple of EMUL, and "no register goes past 31" (A1)
unfoldable pub placed_of : ℕ → Group → Bool
placed_of elen g =
    leb 8 g.eew && (leb g.eew elen
    && (leb 1 g.emul8 && (leb (nfields g * g.emul8) 64
    && (eqb (g.reg % registers_of g) 0 && leb (g.reg + span_of g) 32))))

-- no register in common, of any field
abbrev pub apart_of : Group → Group → Bool
apart_of d s = leb (d.reg + span_of d) s.reg || leb (s.reg + span_of s) d.reg

-- the destination is the source's lowest-numbered part, or the source the destination's highest-numbered part, where both have one field
abbrev pub lowest_of : Group → Group → Bool
lowest_of d s = eqb d.reg s.reg

abbrev pub highest_of : Group → Group → Bool
highest_of d s = eqb (s.reg + registers_of s) (d.reg + registers_of d)

-- "A destination may overlap a source of equal EEW; of larger EEW in the source's lowest-numbered part; of smaller EEW in the
-- destination's highest-numbered part if the source EMUL is at least 1." A destination of several fields overlaps no source (section 8.8.3:
-- those of "indexed segment loads" "cannot overlap"), not even one of equal EEW
unfoldable pub may_overlap_of : Group → Group → Bool
may_overlap_of d s =
    apart_of d s
    || (eqb d.nf 0
    && (eqb d.eew s.eew
    || ((ltb d.eew s.eew && lowest_of d s)
    || (ltb s.eew d.eew && (highest_of d s && leb 8 s.emul8)))))

-- The ratified manual "reserves a word that reads one register at two different EEWs" (document 02, A5): two sources have no register in
-- common, or equal EEW
unfoldable pub may_share_of : Group → Group → Bool
may_share_of r s = apart_of r s || eqb r.eew s.eew

-- "Masked instructions may not write v0 unless the result is a mask." A group with v0 in it, or fields of which one has v0, starts there
unfoldable pub spares_v0 : Bool → Group → Bool
spares_v0 masked d = not masked || (not (eqb d.reg 0) || eqb d.eew 1)
