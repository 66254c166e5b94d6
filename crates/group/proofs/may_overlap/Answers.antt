-- `may_overlap` meets its contract. Assumes nothing.
use Rattle.group.proofs.GroupLaws.{overlap-is}
use Rattle.group.proofs.may_overlap.Goals as goal

pub returns : goal.returns
returns c = search overlap-is
