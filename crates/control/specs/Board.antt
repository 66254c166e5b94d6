-- A board: VLENB, the bytes of a vector register, and ELEN, the bits of the largest element (section 3 of document 000).
use Rattle.std.specs.Prelude.{ℕ, ◌*◌, ◌^◌, ◌≤◌, ◌≡◌}
use Rattle.control.specs.declared.Board.{Board}

-- VLEN 128, ELEN 64 (document 01, 'The machine on the screen')
abbrev pub base : Board
base = record { vlenb = 16; elen = 64 }

-- "boards with Zve32x and VLEN 64" (document 02, A11): ELEN 32
abbrev pub small : Board
small = record { vlenb = 8; elen = 32 }

-- for laws over every board that can be, `base` and `small` among them: VLENB is a power of 2 and at most 16, ELEN at most 64 and at most
-- VLEN. The board of every `Hart` is (`valid`, proofs/Laws)
pub record Valid (b : Board) : Type 0 where
  pub lenb : ℕ
  pub power : b.vlenb ≡ 2 ^ lenb
  pub some : 1 ≤ b.vlenb
  pub most : b.vlenb ≤ 16
  pub elen : b.elen ≤ 64
  pub within : b.elen ≤ 8 * b.vlenb
