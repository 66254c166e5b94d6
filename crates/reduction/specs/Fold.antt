-- What all ten reductions rest on: "one fact about folding over active elements" (document 02, A4).
use Rattle.std.specs.Prelude.{ℕ, suc, ◌≡◌, Bool, cond}
use mathlib.Core.List.{foldl}
use Rattle.machine.specs.OneTurn.{active_elements}

-- to fold over the active ones of the elements from i up is to join element i where it is active, and to fold over the others from there
abbrev pub FoldsUpward : Type 0
FoldsUpward =
    (f : ℕ → ℕ → ℕ) (active : ℕ → Bool) (element : ℕ → ℕ) (acc i n : ℕ)
    → foldl f acc (active_elements active element i (suc n))
    ≡ foldl f (cond (active i) (f acc (element i)) acc) (active_elements active element (suc i) n)
