use native.Mathlib.Omega.{arith}
use Rattle.layout.specs.Layout.{with_element}
use Rattle.layout.proofs.WidthLaws.{bytes-size}
use Rattle.layout.proofs.BytesLaws.{write-sized}
use Rattle.layout.proofs.ElementLaws.{begins, one_byte, mask-room, bytes-room, as-mask, as-several}
use Rattle.layout.proofs.write_element.Goals as goal

pub overflow_mul-at : goal.overflow_mul-at
unfolding with_element
overflow_mul-at c = omega (arith, begins c.requires)

pub overflow_mul-at-2 : goal.overflow_mul-at-2
unfolding with_element
overflow_mul-at-2 c = omega (arith, begins c.requires)

pub overflow_add-at : goal.overflow_add-at
unfolding with_element
overflow_add-at c = omega (arith, begins c.requires)

pub returns-then-n-eq1 : goal.returns-then-n-eq1
unfolding with_element
returns-then-n-eq1 c = search (as-several, write-sized, one_byte)

pub write_bit-requires : goal.write_bit-requires
unfolding with_element
write_bit-requires c = search mask-room

pub returns-then-eew-eq1 : goal.returns-then-eew-eq1
unfolding with_element
returns-then-eew-eq1 c = search as-mask

pub write_bytes-requires : goal.write_bytes-requires
unfolding with_element
write_bytes-requires c = search (bytes-size, bytes-room)

pub returns : goal.returns
unfolding with_element
returns c = search as-several
