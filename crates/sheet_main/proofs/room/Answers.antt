use Rattle.sheet.specs.Bounds.{sheet_bound}
use Rattle.sheet.proofs.Printing.{zeros}
use Rattle.sheet_main.proofs.room.Goals as goal

pub returns : goal.returns
returns c = zeros sheet_bound
