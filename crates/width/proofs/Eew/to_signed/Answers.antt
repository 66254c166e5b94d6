use Rattle.width.proofs.SignedLaws.{shifted}
use Rattle.width.proofs.Eew.to_signed.Goals as goal

pub returns : goal.returns
returns c = search shifted
