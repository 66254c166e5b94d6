-- Text as a list of bytes, and its place in a lent buffer.
use Rattle.std.specs.Prelude.{ℕ, zero, suc, ◌+◌, ◌/◌, ◌%◌, ◌^◌, ◌≡◌, cond, List, [], ◌∷◌, ◌++◌, length, set, ltb}
use Rattle.text.specs.declared.Text.{Text}
use Prim.Native.Char.{code}
use Prim.Native.String.{String, [] as empty, ◌∷◌ as ◌and◌}

-- the bytes of an ASCII text
abbrev pub ascii : String → List ℕ
ascii empty = []
ascii (c and s) = code c ∷ ascii s

-- a lower-case hex digit
unfoldable pub hex_digit : ℕ → ℕ
hex_digit d = cond (ltb d 10) (48 + d) (87 + d)

-- the n lowest hex digits of x, highest first
unfoldable pub hex : ℕ → ℕ → List ℕ
hex zero x = []
hex (suc n) x = hex_digit (x / 16 ^ n % 16) ∷ hex n x

-- x in a radix, without leading zeros, where it has at most n digits
unfoldable pub numeral : ℕ → ℕ → ℕ → List ℕ
numeral radix zero x = []
numeral radix (suc n) x = cond (ltb x radix) [] (numeral radix n (x / radix)) ++ (hex_digit (x % radix) ∷ [])

-- a number below 2^64 has at most 20 digits in decimal, and 16 in hex
abbrev pub decimal : ℕ → List ℕ
decimal x = numeral 10 20 x

abbrev pub short_hex : ℕ → List ℕ
short_hex x = numeral 16 16 x

-- key, value and newline
abbrev pub line : List ℕ → List ℕ → List ℕ
line key value = key ++ (value ++ (10 ∷ []))

-- ---- for contracts of inner functions, not to be believed

-- the buffer with a text from index `at` on, as far as the buffer reaches
unfoldable pub over : List ℕ → ℕ → List ℕ → List ℕ
over out at [] = out
over out at (b ∷ text) = over (set out at b) (suc at) text

-- a text has been written from `at` on, and ends at `next`
pub record Wrote (out : List ℕ) (at : ℕ) (text : List ℕ) (after : List ℕ) (next : ℕ) : Type 0 where
  pub bytes : after ≡ over out at text
  pub ends : next ≡ at + length text

-- a text has been added to what a Text writes, and its buffer is still the one that was lent
pub record Adds (before : Text) (text : List ℕ) (after : Text) : Type 0 where
  pub wrote : Wrote before.out.now before.at text after.out.now after.at
  pub same_buffer : after.out.ghost_name ≡ before.out.ghost_name
