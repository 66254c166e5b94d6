-- Where an element lies in a list of bytes (section 5 of document 000): lowest byte first, elements one beside the other.
use Rattle.std.specs.Prelude.{ℕ, zero, suc, ◌+◌, ◌-◌, ◌*◌, ◌/◌, ◌%◌, ◌^◌, ◌≤◌, Bool, ◌||◌, cond, List, get_or, set, T, eqb}

-- ---- bytes: registers and memory alike

-- the number of the n bytes from index a, lowest byte first
unfoldable pub bytes_at : List ℕ → ℕ → ℕ → ℕ
bytes_at l a zero = 0
bytes_at l a (suc n) = get_or l a 0 + 256 * bytes_at l (suc a) n

-- the list with the low n bytes of x from index a on
unfoldable pub with_bytes : List ℕ → ℕ → ℕ → ℕ → List ℕ
with_bytes l a zero x = l
with_bytes l a (suc n) x = with_bytes (set l a (x % 256)) (suc a) n (x / 256)

-- ---- bits (section 5.5): mask element i is bit i, lowest first

-- bit k of x
abbrev pub bit_of : ℕ → ℕ → ℕ
bit_of x k = x / 2 ^ k % 2

-- x with bit k replaced by b, which is 0 or 1
abbrev pub with_bit : ℕ → ℕ → ℕ → ℕ
with_bit x k b = x - bit_of x k * 2 ^ k + b * 2 ^ k

-- bit i of the bytes from index a on, and the list with the low bit of x in its place
unfoldable pub bit_at : List ℕ → ℕ → ℕ → ℕ
bit_at l a i = bit_of (get_or l (a + i / 8) 0) (i % 8)

unfoldable pub with_bit_at : List ℕ → ℕ → ℕ → ℕ → List ℕ
with_bit_at l a i x = set l (a + i / 8) (with_bit (get_or l (a + i / 8) 0) (i % 8) (x % 2))

-- ---- elements of the register file: vN begins at byte VLENB * N; a mask has EEW 1

-- element i, of EEW bits, from register reg on
unfoldable pub element_at : ℕ → List ℕ → ℕ → ℕ → ℕ → ℕ
element_at vlenb file reg eew i =
    cond (eqb eew 1) (bit_at file (vlenb * reg) i) (bytes_at file (vlenb * reg + i * (eew / 8)) (eew / 8))

-- the file with x in its place
unfoldable pub with_element : ℕ → List ℕ → ℕ → ℕ → ℕ → ℕ → List ℕ
with_element vlenb file reg eew i x =
    cond (eqb eew 1) (with_bit_at file (vlenb * reg) i x) (with_bytes file (vlenb * reg + i * (eew / 8)) (eew / 8) x)

-- ---- for contracts of inner functions, not to be believed

-- the sizes of an element in bytes, and its EEW
abbrev pub byte_size : ℕ → Bool
byte_size n = eqb n 1 || (eqb n 2 || (eqb n 4 || eqb n 8))

abbrev pub element_width : ℕ → Bool
element_width eew = eqb eew 1 || (eqb eew 8 || (eqb eew 16 || (eqb eew 32 || eqb eew 64)))

-- an element that a file of so many bytes holds whole
pub record Inside (size vlenb reg eew i : ℕ) : Type 0 where
  pub width : T (element_width eew)
  pub within : 8 * (vlenb * reg) + i * eew + eew ≤ 8 * size
