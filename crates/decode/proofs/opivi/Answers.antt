use Rattle.std.proofs.Common.{arith}
use Rattle.std.proofs.lemmas.Grind.{common_steps}
use Rattle.decode.specs.Listing.{listing, find, entry_of}
use Rattle.decode.proofs.opivi.Goals as goal

pub returns-in_default : goal.returns-in_default
unfolding listing find entry_of
returns-in_default c = grind (arith, common_steps)
