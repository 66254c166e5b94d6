-- What the caller sees after a call is what the call's definition gives, on the board b whose call it is, and which the code names b'.
use Prim.Native.Nat.{ℕ}
use mathlib.Core.Path.{◌≡◌}
use mathlib.Core.List.{List}
use Rattle.control.specs.declared.Board.{Board}
use Rattle.control.specs.declared.Control.{Control}
use Rattle.control.specs.Control.{record_of}
use Rattle.machine.specs.Machine.{turn_of}
use Rattle.machine.specs.declared.Turned.{Turned}
use Rattle.machine.specs.Call.{given, left}
use Rattle.unit_stride.specs.declared.Checked.{Checked}
use Rattle.access_check.specs.AccessCheck.{access_check_of}
use Rattle.crossing.specs.Crossing.{Shows, Tells}

module _ (b b' : Board) (same : b' ≡ b) (fields : List ℕ) (c : Control) (e : c ≡ record_of fields) where
  pub shown :
      (word n : ℕ) (t : Turned) (r s m r' s' m' p l : List ℕ) (a passed address page right : ℕ) →
      left t r' s' m' p ≡ turn_of b' word n (given r s m p c) →
      ((r s m p : List ℕ) → Shows (left t r s m p) a passed address page right r s m p l) →
      Shows (turn_of b word n (given r s m p (record_of fields))) a passed address page right r' s' m' p l
  shown word n t r s m r' s' m' p l a passed address page right h f = rw (← e, ← same, ← h) (f r' s' m' p)

  pub told :
      (word : ℕ) (t : Checked) (r s m p : List ℕ) (a element pages page right : ℕ) →
      t ≡ access_check_of b' word (given r s m p c) → Tells t a element pages page right →
      Tells (access_check_of b word (given r s m p (record_of fields))) a element pages page right
  told word t r s m p a element pages page right h f = rw (← e, ← same, ← h) f
