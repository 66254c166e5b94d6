use native.Mathlib.Omega.{arith}
use Rattle.layout.specs.Layout.{element_at}
use Rattle.layout.proofs.WidthLaws.{bytes-size}
use Rattle.layout.proofs.BytesLaws.{read-sized, lt-sized}
use Rattle.layout.proofs.ElementLaws.{begins, one_byte, mask-room, bytes-room, as-mask, as-several, lt-mask, lt-several}
use Rattle.layout.proofs.read_element.Goals as goal

pub overflow_mul-at : goal.overflow_mul-at
unfolding element_at
overflow_mul-at c = omega (arith, begins c.requires)

pub overflow_mul-at-2 : goal.overflow_mul-at-2
unfolding element_at
overflow_mul-at-2 c = omega (arith, begins c.requires)

pub overflow_add-at : goal.overflow_add-at
unfolding element_at
overflow_add-at c = omega (arith, begins c.requires)

pub returns-then-n-eq1 : goal.returns-then-n-eq1
unfolding element_at
returns-then-n-eq1 c = search (as-several, lt-several, read-sized, lt-sized 1, one_byte)

pub read_bit-requires : goal.read_bit-requires
unfolding element_at
read_bit-requires c = search mask-room

pub returns-then-eew-eq1 : goal.returns-then-eew-eq1
unfolding element_at
returns-then-eew-eq1 c = search (as-mask, lt-mask)

pub read_bytes-requires : goal.read_bytes-requires
unfolding element_at
read_bytes-requires c = search (bytes-size, bytes-room)

pub returns : goal.returns
unfolding element_at
returns c = search (as-several, lt-several)
