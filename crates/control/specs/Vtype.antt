-- vtype (section 4.4 of document 000): bits 2..0 vlmul, 5..3 vsew, 6 vta, 7 vma; vill is bit 63.
use Rattle.std.specs.Prelude.{ℕ, ◌*◌, ◌/◌, ◌%◌, ◌^◌, [], ◌∷◌, Bool, not, ◌&&◌, ◌||◌, get_or, ltb, leb, eqb}
use Rattle.control.specs.declared.Board.{Board}

abbrev pub vill : ℕ
vill = 2 ^ 63

-- 8 * LMUL (section 4.4.2): vlmul is a signed power of 2; 0 stands for the reserved 100
abbrev pub lmul8_of : ℕ → ℕ
lmul8_of v = get_or (8 ∷ 16 ∷ 32 ∷ 64 ∷ 0 ∷ 1 ∷ 2 ∷ 4 ∷ []) (v % 8) 0

-- SEW (section 4.4.1), by vsew. Those above 64 are of types that are not supported
abbrev pub sew_of : ℕ → ℕ
sew_of v = get_or (8 ∷ 16 ∷ 32 ∷ 64 ∷ 128 ∷ 256 ∷ 512 ∷ 1024 ∷ []) (v / 8 % 8) 0

-- VLMAX = LMUL * VLEN / SEW, with VLEN = 8 * VLENB
unfoldable pub vlmax_of : Board → ℕ → ℕ
vlmax_of b v = lmul8_of v * b.vlenb / sew_of v

-- document 01: all higher bits 0, SEW at most ELEN, vlmul not 100, and SEW at most ELEN * LMUL where LMUL is below 1
unfoldable pub supported_of : Board → ℕ → Bool
supported_of b v =
    ltb v 256
    && (leb (sew_of v) b.elen
    && (not (eqb (v % 8) 4)
    && (leb 8 (lmul8_of v) || leb (8 * sew_of v) (b.elen * lmul8_of v))))
