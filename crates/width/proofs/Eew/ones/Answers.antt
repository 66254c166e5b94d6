use Rattle.std.proofs.Common.{ℕ, ◌+◌, ◌-◌, ◌^◌, ap, ◌∙◌, add-one}
use lib.Pow.{suc_ones}
use Rattle.width.proofs.LowBits.{ones_shr}
use Rattle.width.proofs.Eew.ones.Goals as goal

pub returns : goal.returns
returns c =
    let w : ℕ = c.args.self.bits in ap (λ (x : ℕ). x + 1) (ones_shr c.args.self.most) ∙ add-one (2 ^ w - 1) ∙ suc_ones w
