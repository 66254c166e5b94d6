use Rattle.group.proofs.GroupLaws.{apart-is}
use Rattle.group.proofs.apart.Goals as goal

pub returns : goal.returns
returns c = search apart-is
