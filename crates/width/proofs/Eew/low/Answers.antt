use Rattle.width.proofs.LowBits.{and-ones}
use Rattle.width.proofs.Eew.low.Goals as goal

pub returns : goal.returns
returns c =
    and-ones c.args.x c.args.self.bits c.ones.result c.ones.ensures
