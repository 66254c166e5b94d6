-- What an arm of the dispatcher knows of its operands, and what it gives: in the arm of the variant v, the operation is v.
use mathlib.Core.Path.{◌≡◌, ap, ◌∙◌, subst}
use Prim.Native.Nat.{ℕ, ◌*◌, ◌/◌, ◌<◌, ◌≤◌, ◌^◌}
use native.Mathlib.Nat.{le-div_iff_mul-le, div-le_self}
use native.Mathlib.Omega.{arith}
use lib.Dec.{lit≤}
use Rattle.laws.proofs.Chain.{case}
use Rattle.width.specs.Width.{Width}
use Rattle.fixed.specs.declared.Element.{Element}
use Rattle.fixed.specs.declared.Vxrm.{Vxrm}
use Rattle.fixed.specs.Round.{exact}
use Rattle.operation.specs.declared.Op.{Op}
use Rattle.operation.specs.Shape.{eew_of, shape_of, largest_sew}
use Rattle.operation.proofs.ShapeLaws.{largest-le}
use Rattle.alu.specs.Element.{element_of, Operands}

-- ---- operands

pub width_fits : (o : Op) (w a b c : ℕ) → Operands o w a b c → Width w
width_fits o w a b c h = record { some = omega (arith, h.least); most = omega (arith, h.most, largest-le o) }

pub double-fits : (o v : Op) (w a b c : ℕ) → o ≡ v → Operands o w a b c → largest_sew v ≡ 32 → Width (2 * w)
double-fits o v w a b c e h l =
    let m : w ≤ 32 = subst (λ (n : ℕ). w ≤ n) (ap largest_sew e ∙ l) h.most in
    record { some = omega (arith, h.least); most = omega arith }

pub part-fits : (o : Op) (f w a b c : ℕ) → Operands o w a b c → 1 ≤ f → f ≤ 8 → Width (w / f)
part-fits o f w a b c h l m =
    let u : Width w = width_fits o w a b c h in
    record { some = (le-div_iff_mul-le l).1 (omega (arith, h.least)); most = omega (arith, div-le_self w f, u.most) }

pub vs2-fits : (o v : Op) (w a b c n : ℕ) → o ≡ v → Operands o w a b c → eew_of (shape_of v).vs2 w ≡ n → a < 2 ^ n
vs2-fits o v w a b c n e h l = subst (λ (k : ℕ). a < 2 ^ k) (ap (λ (x : Op). eew_of (shape_of x).vs2 w) e ∙ l) h.vs2-fits

pub vs1-fits : (o v : Op) (w a b c n : ℕ) → o ≡ v → Operands o w a b c → eew_of (shape_of v).vs1 w ≡ n → b < 2 ^ n
vs1-fits o v w a b c n e h l = subst (λ (k : ℕ). b < 2 ^ k) (ap (λ (x : Op). eew_of (shape_of x).vs1 w) e ∙ l) h.vs1-fits

pub at_least : (o : Op) (w a b c : ℕ) → Operands o w a b c → 2 ≤ w
at_least o w a b c h = omega (arith, h.least)

pub v0-fits : (o : Op) (w a b c : ℕ) → Operands o w a b c → c < 2
v0-fits o w a b c h = h.v0-fits

-- `lit≤`: the factor of an extension, a number
pub ruleset fits = (lit≤, width_fits, double-fits, part-fits, vs2-fits, vs1-fits, at_least, v0-fits)

-- ---- results

pub clause : (w : ℕ) (rm : Vxrm) (a b d c : ℕ) (o v : Op) (r : Element)
    → o ≡ v → r ≡ element_of w rm a b d c v → r ≡ element_of w rm a b d c o
clause w rm a b d c = case (element_of w rm a b d c)

-- through `Element::exact`
pub plain-clause : (w : ℕ) (rm : Vxrm) (a b d c : ℕ) (o v : Op) (x : ℕ) (r : Element)
    → o ≡ v → r ≡ exact x → exact x ≡ element_of w rm a b d c v → r ≡ element_of w rm a b d c o
plain-clause w rm a b d c o v x r e p q = clause w rm a b d c o v r e (p ∙ q)

pub exact-is : (x y : ℕ) → x ≡ y → exact x ≡ exact y
exact-is x y e = ap exact e

pub ruleset ways = (clause, plain-clause, exact-is)

pub ruleset arms = (ways, fits)
