-- What a sheet says, and its first bad line (document 01, 'The sheet runner'). A byte past the end reads as 0, which no line has.
use Rattle.std.specs.Prelude.{ℕ, zero, suc, ◌+◌, ◌-◌, ◌*◌, Bool, true, not, ◌&&◌, ◌||◌, cond, List, [], ◌∷◌, ◌++◌, length, get_or, ltb}
use Rattle.std.specs.Prelude.{leb, eqb}
use Rattle.hexadecimal.specs.Hexadecimal.{is_decimal, all_at, digits_at, number_at}
use Rattle.text.specs.Text.{ascii}

-- ---- lines: key=value, each ended by a newline

-- where the value of a line begins; and the line after it, where the value has n bytes
abbrev pub value_at : ℕ → List ℕ → ℕ
value_at at key = at + length key

abbrev pub line_after : ℕ → List ℕ → ℕ → ℕ
line_after at key n = value_at at key + n + 1

-- whether the first n bytes of the key stand at an index; and the whole key
unfoldable pub same_to : List ℕ → ℕ → List ℕ → ℕ → Bool
same_to s at key zero = true
same_to s at key (suc n) = same_to s at key n && eqb (get_or s (at + n) 0) (get_or key n 0)

abbrev pub begins : List ℕ → ℕ → List ℕ → Bool
begins s at key = same_to s at key (length key)

-- the key, n hex digits and a newline
abbrev pub hex_line : List ℕ → ℕ → List ℕ → ℕ → Bool
hex_line s at key n = begins s at key && (digits_at s (value_at at key) n && eqb (get_or s (value_at at key + n) 0) 10)

-- "16 marks - r w": closed, read, read and write
abbrev pub is_mark : ℕ → Bool
is_mark b = eqb b 45 || (eqb b 114 || eqb b 119)

unfoldable pub mark_of : ℕ → ℕ
mark_of b = cond (eqb b 114) 1 (cond (eqb b 119) 2 0)

unfoldable pub rights_at : List ℕ → ℕ → ℕ → List ℕ
rights_at s at zero = []
rights_at s at (suc n) = rights_at s at n ++ (mark_of (get_or s (at + n) 0) ∷ [])

-- where the marks begin
abbrev pub marks_from : ℕ
marks_from = value_at 0 (ascii "rights=")

abbrev pub rights_line : List ℕ → Bool
rights_line s = begins s 0 (ascii "rights=") && (all_at is_mark s marks_from 16 && eqb (get_or s (marks_from + 16) 0) 10)

-- "decimal 1 to 128, no leading zero", ended by a newline, at an index: the number, or 0 where there is none
abbrev pub most_allow : ℕ
most_allow = 128

abbrev pub tens : ℕ → ℕ → ℕ
tens d e = 10 * (d - 48) + (e - 48)

unfoldable pub three_digits : ℕ → ℕ → ℕ → ℕ → ℕ
three_digits d e f g = cond (is_decimal f && (eqb g 10 && leb (10 * tens d e + (f - 48)) most_allow)) (10 * tens d e + (f - 48)) 0

unfoldable pub up_to_128 : ℕ → ℕ → ℕ → ℕ → ℕ
up_to_128 d e f g =
    cond (is_decimal d && not (eqb d 48))
    (cond (eqb e 10) (d - 48) (cond (is_decimal e) (cond (eqb f 10) (tens d e) (three_digits d e f g)) 0))
    0

-- ---- the lines in their order; each of the first five begins at an index of its own

abbrev pub x10_at : ℕ
x10_at = line_after 0 (ascii "rights=") 16

abbrev pub x11_at : ℕ
x11_at = line_after x10_at (ascii "x10=") 16

abbrev pub x12_at : ℕ
x12_at = line_after x11_at (ascii "x11=") 16

abbrev pub allow_at : ℕ
allow_at = line_after x12_at (ascii "x12=") 16

-- where the values of these begin
abbrev pub x10_from : ℕ
x10_from = value_at x10_at (ascii "x10=")

abbrev pub x11_from : ℕ
x11_from = value_at x11_at (ascii "x11=")

abbrev pub x12_from : ℕ
x12_from = value_at x12_at (ascii "x12=")

abbrev pub allow_from : ℕ
allow_from = value_at allow_at (ascii "allow=")

unfoldable pub allow_of : List ℕ → ℕ
allow_of s =
    cond (begins s allow_at (ascii "allow="))
    (up_to_128 (get_or s allow_from 0) (get_or s (allow_from + 1) 0) (get_or s (allow_from + 2) 0) (get_or s (allow_from + 3) 0))
    0

-- where the line after `allow` begins: after n digits, and after the number's own
abbrev pub after_allow : ℕ → ℕ
after_allow n = line_after allow_at (ascii "allow=") n

abbrev pub first_word : ℕ → ℕ
first_word allow = cond (ltb allow 10) (after_allow 1) (cond (ltb allow 100) (after_allow 2) (after_allow 3))

-- "word lines (8 such digits)": whether one stands at an index, its word, and its length
abbrev pub word_line : List ℕ → ℕ → Bool
word_line s at = hex_line s at (ascii "word=") 8

abbrev pub word_at : List ℕ → ℕ → ℕ
word_at s at = number_at s (value_at at (ascii "word=")) 8

abbrev pub word_length : ℕ
word_length = line_after 0 (ascii "word=") 8

-- "1 to 64 word lines": how many stand at an index, at most n; and the words of n lines
abbrev pub most_words : ℕ
most_words = 64

unfoldable pub count_at : List ℕ → ℕ → ℕ → ℕ
count_at s at zero = 0
count_at s at (suc n) = cond (word_line s at) (suc (count_at s (at + word_length) n)) 0

unfoldable pub words_at : List ℕ → ℕ → ℕ → List ℕ
words_at s at zero = []
words_at s at (suc n) = word_at s at ∷ words_at s (at + word_length) n

-- from line 6 on: k word lines from an index, end=1, and nothing more. The first bad line, or 0
abbrev pub after_words : ℕ → ℕ → ℕ
after_words at k = at + word_length * k

unfoldable pub bad_end : List ℕ → ℕ → ℕ → ℕ
bad_end s at k =
    cond (eqb k 0) 6
    (cond (not (begins s (after_words at k) (ascii "end=1\n"))) (6 + k)
    (cond (ltb (after_words at k + length (ascii "end=1\n")) (length s)) (7 + k) 0))

-- "its first bad line, counted from 1; a missing line counts as bad at its place, and so does any byte after the newline of end=1"; 0 where
-- the sheet is good
unfoldable pub first_bad : List ℕ → ℕ
first_bad s =
    cond (not (rights_line s)) 1
    (cond (not (hex_line s x10_at (ascii "x10=") 16)) 2
    (cond (not (hex_line s x11_at (ascii "x11=") 16)) 3
    (cond (not (hex_line s x12_at (ascii "x12=") 16)) 4
    (cond (eqb (allow_of s) 0) 5 (bad_end s (first_word (allow_of s)) (count_at s (first_word (allow_of s)) most_words))))))

-- ---- what a good sheet says

pub record Sheet : Type 0 where
  -- of pages 0 to 15
  pub rights : List ℕ
  pub x10 : ℕ
  pub x11 : ℕ
  pub x12 : ℕ
  pub allow : ℕ
  pub words : List ℕ

unfoldable pub sheet_of : List ℕ → Sheet
sheet_of s = record {
  rights = rights_at s marks_from 16;
  x10 = number_at s x10_from 16;
  x11 = number_at s x11_from 16;
  x12 = number_at s x12_from 16;
  allow = allow_of s;
  words = words_at s (first_word (allow_of s)) (count_at s (first_word (allow_of s)) most_words);
}
