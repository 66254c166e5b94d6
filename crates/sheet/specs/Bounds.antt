-- For contracts of inner functions, not to be believed, but for `sheet_bound`, which `sheet::run` promises: how long the printed text can
-- get. The definitions of what is printed do not use these numbers. A line counts its key, its value and a newline.
use Rattle.std.specs.Prelude.{ℕ, ◌+◌, ◌*◌}
use Rattle.sheet_read.specs.Sheet.{most_words}
use Rattle.sheet.specs.Run.{most_turns}

-- a number below 2^64 has at most so many decimal digits
abbrev pub most_digits : ℕ
most_digits = 20

-- a turn's report: page and right; vstart, vl, vtype and vs; and all its lines, 14 + 28 + wanted_bound + control_bound bytes at most
abbrev pub wanted_bound : ℕ
wanted_bound = (5 + most_digits + 1) + (6 + most_digits + 1)

abbrev pub control_bound : ℕ
control_bound = (7 + most_digits + 1) + (3 + most_digits + 1) + (6 + 16 + 1) + (3 + most_digits + 1)

abbrev pub report_bound : ℕ
report_bound = 200

-- the reports of a word's turns, and of all words
abbrev pub word_bound : ℕ
word_bound = most_turns * report_bound

abbrev pub words_bound : ℕ
words_bound = most_words * word_bound

-- x10, x11, x12; a register's value, its line, and the lines of all 32
abbrev pub scalars_length : ℕ
scalars_length = 3 * (4 + 16 + 1)

abbrev pub value_length : ℕ
value_length = 1 + 16 + 16 + 1

abbrev pub register_bound : ℕ
register_bound = 1 + most_digits + value_length

abbrev pub registers_bound : ℕ
registers_bound = 32 * register_bound

abbrev pub final_bound : ℕ
final_bound = scalars_length + registers_bound

-- all of it: what `run` promises, and no less than words_bound + final_bound
abbrev pub sheet_bound : ℕ
sheet_bound = 1660000
