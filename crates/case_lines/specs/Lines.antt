-- For contracts of inner functions, not to be believed: the numbers of a line that a program reads or prints for a case. It says nothing
-- of the machine.
use Rattle.std.specs.Prelude.{ℕ, zero, suc, ◌+◌, ◌-◌, List, [], ◌∷◌, ◌++◌, get_or, length, take, drop, replicate, min, cond, ltb}
use Rattle.hexadecimal.specs.Hexadecimal.{number_at}
use Rattle.text.specs.Text.{short_hex, decimal}
use Rattle.control.specs.declared.Control.{Control}
use Rattle.control.specs.Control.{fields_of, record_of}

-- the control record that is read: its fields from index `at` on, each in 16 hex digits
abbrev pub control_at : List ℕ → ℕ → Control
control_at s at =
    record_of
    (number_at s at 16
    ∷ number_at s (at + 16) 16
    ∷ number_at s (at + 32) 16
    ∷ number_at s (at + 48) 16
    ∷ number_at s (at + 64) 16
    ∷ number_at s (at + 80) 16
    ∷ [])

-- a list in which x stands from index `first` to before `end`, as far as the list goes
abbrev pub with_range : List ℕ → ℕ → ℕ → ℕ → List ℕ
with_range l first end x =
    cond
    (ltb first (min (length l) end))
    (take first l ++ (replicate (min (length l) end - first) x ++ drop (min (length l) end) l))
    l

-- the n bytes from index `at` of a line, of two digits each
unfoldable pub bytes_at : List ℕ → ℕ → ℕ → List ℕ
bytes_at s at zero = []
bytes_at s at (suc n) = number_at s at 2 ∷ bytes_at s (at + 2) n

-- each number in decimal, after a space
abbrev pub spaced : List ℕ → List ℕ
spaced [] = []
spaced (x ∷ xs) = (32 ∷ decimal x) ++ spaced xs

-- the control record that is printed: vtype in hex, then the other fields
abbrev pub control_text : Control → List ℕ
control_text c = short_hex (get_or (fields_of c) 0 0) ++ spaced (drop 1 (fields_of c))
