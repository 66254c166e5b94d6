use Rattle.legality.proofs.LegalLaws.{element-range, bit-range}
use Rattle.legality.proofs.SourceLaws.{constant-shared, element-shared, bit-shared}
use Rattle.legality.proofs.may_share_with.Goals as goal

pub may_share-requires : goal.may_share-requires
may_share-requires c = search element-range

pub may_share-requires-in-Bit : goal.may_share-requires-in-Bit
may_share-requires-in-Bit c = search bit-range

pub returns-in-Constant : goal.returns-in-Constant
returns-in-Constant c = search constant-shared

pub returns-in-Element : goal.returns-in-Element
returns-in-Element c = search element-shared

pub returns-in-Bit : goal.returns-in-Bit
returns-in-Bit c = search bit-shared
