use Prim.Native.Nat.{ℕ}
use mathlib.Core.Path.{◌≡◌, refl}
use mathlib.Core.Bool.{Bool, true, not, ◌&&◌, ◌||◌}
use Rattle.laws.proofs.Chain.{case}
use Rattle.group.specs.declared.Group.{Group}
use Rattle.group.specs.Group.{mask_group, placed_of}
use Rattle.plan.specs.declared.Read.{Read}
use Rattle.plan.specs.declared.Read.TheVariants as R
use Rattle.legality.specs.Legal.{overlap_fits, read_fits}
use Rattle.legality.proofs.LegalLaws.{element-range, bit-range}
use Rattle.legality.proofs.read_fits.Goals as goal

constant-fits : (elen : ℕ) (w s : Bool) (d : Group) (r : Read) (n : ℕ) → r ≡ R.Constant n → true ≡ read_fits elen w s d r
unfolding read_fits
constant-fits elen w s d r n e = case (read_fits elen w s d) r (R.Constant n) true e refl

element-fits : (elen : ℕ) (w s : Bool) (d : Group) (r : Read) (g : Group) (p q : Bool) → r ≡ R.Element g → p ≡ placed_of elen g
    → q ≡ overlap_fits s d g
    → (p && (not w || q)) ≡ read_fits elen w s d r
unfolding read_fits
element-fits elen w s d r g p q e h k = case (read_fits elen w s d) r (R.Element g) (p && (not w || q)) e (rw (h, k))

bit-fits : (elen : ℕ) (w s : Bool) (d : Group) (r : Read) (n : ℕ) (m : Group) (q : Bool) → r ≡ R.Bit n → m ≡ mask_group n
    → q ≡ overlap_fits s d m
    → (not w || q) ≡ read_fits elen w s d r
unfolding read_fits
bit-fits elen w s d r n m q e h k = case (read_fits elen w s d) r (R.Bit n) (not w || q) e (rw (k, h))

pub placed-requires : goal.placed-requires
placed-requires c = search element-range

pub overlap_fits-requires : goal.overlap_fits-requires
overlap_fits-requires c = search element-range

pub overlap_fits-requires-in-Bit : goal.overlap_fits-requires-in-Bit
overlap_fits-requires-in-Bit c = search bit-range

pub returns-in-Constant : goal.returns-in-Constant
returns-in-Constant c = search constant-fits

pub returns-in-Element : goal.returns-in-Element
returns-in-Element c = search element-fits

pub returns-in-Bit : goal.returns-in-Bit
returns-in-Bit c = search bit-fits
