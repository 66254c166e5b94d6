-- What `sources_fit` says, register by register: no word is legal "that reads one register at two different EEWs" (document 02, A5).
use Rattle.std.specs.Prelude.{ℕ, ◌+◌, ◌≤◌, ◌<◌, ◌≡◌, true, List, length, get_or}
use Rattle.group.specs.declared.Group.{Group}
use Rattle.group.specs.Group.{mask_group, span_of}
use Rattle.legality.specs.Legal.{sources_fit}

-- register n is one of the group's, in any of its fields
abbrev pub Has : Group → ℕ → Type 0
Has g n = (g.reg ≤ n) × (n < g.reg + span_of g)

-- source k, counted from 0; past the end none is asked for
abbrev pub source_at : List Group → ℕ → Group
source_at sources k = get_or sources k (mask_group 0)

-- whichever two of the sources have register n, they read it at one EEW
abbrev pub ReadAtOneEew : List Group → Type 0
ReadAtOneEew sources = (i j n : ℕ) → i < length sources → j < length sources → Has (source_at sources i) n → Has (source_at sources j) n
    → (source_at sources i).eew ≡ (source_at sources j).eew

-- the test of the sources holds where every register is read at one EEW, and nowhere else
pub record OneEew : Type 0 where
  pub fitting : (sources : List Group) → sources_fit sources ≡ true → ReadAtOneEew sources
  pub only-fitting : (sources : List Group) → ReadAtOneEew sources → sources_fit sources ≡ true
