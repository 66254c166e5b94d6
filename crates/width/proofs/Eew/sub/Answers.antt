use Rattle.std.proofs.Common.{◌∙◌, arith}
use Rattle.width.proofs.WrapLaws.{sub_low}
use Rattle.width.proofs.Eew.sub.Goals as goal

pub returns : goal.returns
returns c = c.low.ensures ∙ sub_low c.args.self.bits c.args.a c.args.b c.args.self.most (omega arith)
