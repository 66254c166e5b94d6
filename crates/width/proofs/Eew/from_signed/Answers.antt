use Rattle.width.proofs.SignedLaws.{low-is}
use Rattle.width.proofs.Eew.from_signed.Goals as goal

pub returns : goal.returns
returns c = search low-is
