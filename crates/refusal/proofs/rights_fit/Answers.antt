use Rattle.std.proofs.Common.{◌≡◌, ℕ, max, Bool, ◌&&◌, leb, List, [], ◌∷◌, fold, ◌∙◌, rules, arith}
use Rattle.refusal.specs.Refusal.{rights_fit}
use Rattle.refusal.proofs.rights_fit.Goals as goal

-- the greater of two is at most 2 where both are
greater-le : (w r : ℕ) (b : Bool) → (leb (max w r) 2 && b) ≡ (leb w 2 && (leb r 2 && b))
greater-le w r b = grind arith

greatest-le : (rs : List ℕ) (w : ℕ) → leb (fold max w rs) 2 ≡ (leb w 2 && rights_fit rs)
greatest-le [] w = grind arith
greatest-le (r ∷ rs) w = greatest-le rs (max w r) ∙ greater-le w r (rights_fit rs)

pub returns : goal.returns
returns c =
    let e : c.fold.result ≡ fold max 0 c.args.rights.now = search rules in
    rw e (greatest-le c.args.rights.now 0)
