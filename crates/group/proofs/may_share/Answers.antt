use Rattle.group.proofs.GroupLaws.{share-is}
use Rattle.group.proofs.may_share.Goals as goal

pub returns : goal.returns
returns c = search share-is
