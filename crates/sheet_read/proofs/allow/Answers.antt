use Rattle.sheet_read.proofs.SheetLaws.{allow-stands, allow-missing}
use Rattle.sheet_read.proofs.allow.Goals as goal

pub returns-then-not-begins_with : goal.returns-then-not-begins_with
returns-then-not-begins_with c = search allow-missing

pub returns : goal.returns
returns c = search allow-stands
