use Prim.Native.Nat.{◌*◌}
use mathlib.Core.Path.{◌≡◌}
use mathlib.Core.Bool.{Bool, ◌&&◌, and_assoc}
use lib.Dec.{ltb, leb}
use Rattle.control.specs.declared.Board.{Board}
use Rattle.control.specs.declared.Control.{Control}
use Rattle.control.specs.Control.{typed_well_of, possible_of}
use Rattle.control.proofs.Control.possible.Goals as goal

is-possible : (b : Board) (c : Control) (t : Bool) → t ≡ typed_well_of b c
    → (t && ltb c.vstart (8 * b.vlenb) && leb c.vxrm 3 && leb c.vxsat 1 && leb c.vs 3) ≡ possible_of b c
unfolding possible_of
is-possible b c t e = simp (e, and_assoc)

pub returns : goal.returns
returns c = search is-possible
