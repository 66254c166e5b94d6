use native.Mathlib.Omega.{arith}
use Rattle.execute.specs.Step.{declined}
use Rattle.layout.proofs.BytesLaws.{slice-bytes}
use Rattle.block_copy.proofs.CopyLaws.{file-room, memory-room}
use Rattle.block_copy.proofs.CopyLaws.{stored, loaded}
use Rattle.block_copy.proofs.transferred.Goals as goal

pub returns-then-n-eq0 : goal.returns-then-n-eq0
returns-then-n-eq0 c = λ x d. declined

pub returns-then-not-granted : goal.returns-then-not-granted
returns-then-not-granted c = λ x d. declined

pub overflow_mul-at : goal.overflow_mul-at
overflow_mul-at c = omega (arith, file-room _ _ _ _ _ _ _ c.requires c.if-not-in_order.ensures c.if-n-eq0.false)

pub overflow_add-at : goal.overflow_add-at
overflow_add-at c = omega (arith, file-room _ _ _ _ _ _ _ c.requires c.if-not-in_order.ensures c.if-n-eq0.false)

pub copy-requires : goal.copy-requires
copy-requires c =
    let room = file-room _ _ _ _ _ _ _ c.requires c.if-not-in_order.ensures c.if-n-eq0.false in
    (search (memory-room, c.if-n-eq0.false, c.if-not-in_order.ensures, c.if-not-granted.ensures), omega (arith, room))

pub copy-requires-else-t : goal.copy-requires-else-t
copy-requires-else-t c =
    let room = file-room _ _ _ _ _ _ _ c.requires c.if-not-in_order.ensures c.if-n-eq0.false in
    (omega (arith, room), search (memory-room, c.if-n-eq0.false, c.if-not-in_order.ensures, c.if-not-granted.ensures))

pub returns-then-t : goal.returns-then-t
returns-then-t c = search (stored, slice-bytes, c.if-n-eq0.false, c.if-not-in_order.ensures, c.if-not-granted.ensures)

pub returns-else-t : goal.returns-else-t
returns-else-t c = search (loaded, slice-bytes, c.if-n-eq0.false, c.if-not-in_order.ensures, c.if-not-granted.ensures)
