use Rattle.layout.proofs.BytesLaws.{slice-bytes, byte-wide}
use Rattle.layout.proofs.BitLaws.{stored-sub, stored-fits, write-bit}
use Rattle.layout.proofs.write_bit.Goals as goal

pub overflow_cast-old : goal.overflow_cast-old
overflow_cast-old c = search byte-wide

pub overflow_sub-l : goal.overflow_sub-l
overflow_sub-l c = search stored-sub

pub overflow_add-l : goal.overflow_add-l
overflow_add-l c = search (stored-fits, slice-bytes)

pub overflow_cast-l : goal.overflow_cast-l
overflow_cast-l c = search (stored-fits, slice-bytes)

pub returns : goal.returns
returns c = search write-bit
