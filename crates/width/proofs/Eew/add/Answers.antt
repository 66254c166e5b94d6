use Rattle.std.proofs.Common.{◌+◌, ◌∙◌}
use Rattle.width.proofs.LowBits.{low-low}
use Rattle.width.proofs.Eew.add.Goals as goal

pub returns : goal.returns
returns c = c.low.ensures ∙ low-low (c.args.a + c.args.b) c.args.self.most
