use Rattle.legality.proofs.LegalLaws.{element-range, bit-range}
use Rattle.legality.proofs.SourceLaws.{constant-paired, element-paired, bit-paired}
use Rattle.legality.proofs.pair_fits.Goals as goal

pub may_share_with-requires : goal.may_share_with-requires
may_share_with-requires c = search element-range

pub may_share_with-requires-in-Bit : goal.may_share_with-requires-in-Bit
may_share_with-requires-in-Bit c = search bit-range

pub returns-in-Constant : goal.returns-in-Constant
returns-in-Constant c = search constant-paired

pub returns-in-Element : goal.returns-in-Element
returns-in-Element c = search element-paired

pub returns-in-Bit : goal.returns-in-Bit
returns-in-Bit c = search bit-paired
