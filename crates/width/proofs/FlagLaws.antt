-- A mask bit from a test, as the library's `From<bool>` gives it.
use Rattle.std.proofs.Common.{◌≡◌, ℕ, Bool, true, false, refl, ◌∙◌}
use mir.Val.{bool_byte}
use Rattle.width.specs.Width.{flag}

pub byte-is : (t : Bool) → bool_byte t ≡ flag t
byte-is true = refl
byte-is false = refl

pub flag-from : (t : Bool) (x : ℕ) → x ≡ bool_byte t → x ≡ flag t
flag-from t x e = e ∙ byte-is t
