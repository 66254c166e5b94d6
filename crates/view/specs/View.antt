-- Document 01, 'Register view': where a group of registers lies in the lent file, and its bytes.
use Rattle.std.specs.Prelude.{ℕ, ◌+◌, ◌*◌, ◌%◌, Bool, not, ◌&&◌, ◌||◌, cond, List, [], length, take, drop, leb, eqb, Result, Ok, Err}
use Rattle.answer.specs.declared.Answer.{Answer}
use Rattle.answer.specs.declared.Answer.TheVariants.{BadRegisters, NoGroup}
use Rattle.control.specs.declared.Board.{Board}
use Rattle.view.specs.declared.ViewPlace.{ViewPlace}

-- "a group of 1, 2, 4 or 8 registers whose first number is a multiple of that size and at most 31"
unfoldable pub is_group_of : ℕ → ℕ → Bool
is_group_of first count =
    (eqb count 1 || eqb count 2 || eqb count 4 || eqb count 8) && (leb first 31 && eqb (first % count) 0)

-- "A wrong file is 32, then 38." By the file's number of bytes: it has 32 registers, and vN begins at VLENB * N
unfoldable pub place_of : Board → ℕ → ℕ → ℕ → Result ViewPlace Answer
place_of b bytes first count =
    cond (not (eqb bytes (32 * b.vlenb))) (Err BadRegisters)
    (cond (not (is_group_of first count)) (Err NoGroup)
    (Ok (record { start = b.vlenb * first; size = b.vlenb * count })))

-- "Both give an empty part": in numbers, 0 and 0
abbrev pub start_of : Result ViewPlace Answer → ℕ
start_of (Ok p) = p.start
start_of (Err a) = 0

abbrev pub size_of : Result ViewPlace Answer → ℕ
size_of (Ok p) = p.size
size_of (Err a) = 0

-- "the very bytes of that group inside the lent file"
abbrev pub part_in : Result ViewPlace Answer → List ℕ → List ℕ
part_in (Ok p) registers = take p.size (drop p.start registers)
part_in (Err a) registers = []

abbrev pub part_of : Board → List ℕ → ℕ → ℕ → List ℕ
part_of b registers first count = part_in (place_of b (length registers) first count) registers

-- and no copy of them: the part begins so many bytes after the file does. A reference points to a block, and to a byte in it
abbrev pub point_at : ℕ × ℕ → ℕ → ℕ × ℕ
point_at file start = (file.0, start + file.1)
