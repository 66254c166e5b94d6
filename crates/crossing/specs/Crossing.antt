-- What crosses to C: an outcome as the numbers and parts that a caller sees. The control record crosses as its six numbers.
use Rattle.std.specs.Prelude.{ℕ, ◌≡◌, List}
use Rattle.answer.specs.Answer.{number_of}
use Rattle.control.specs.Control.{fields_of}
use Rattle.machine.specs.State.{Outcome}
use Rattle.unit_stride.specs.declared.Checked.{Checked}

-- the caller sees an outcome: its answer's number is returned, the rest is in the lent parts
pub record Shows (o : Outcome) (answer passed address page right : ℕ) (registers scalars memory rights control : List ℕ) : Type 0 where
  pub answer-is : answer ≡ number_of o.answer
  pub passed_is : passed ≡ o.passed
  pub address_is : address ≡ o.place.address
  pub page-is : page ≡ o.place.wanted.page
  pub right_is : right ≡ o.place.wanted.right
  pub registers-are : registers ≡ o.after.registers
  pub scalars-are : scalars ≡ o.after.scalars
  pub memory-is : memory ≡ o.after.memory
  pub rights-are : rights ≡ o.after.rights
  pub control-is : control ≡ fields_of o.after.control

-- the caller sees what an access check gives: its answer's number is returned, the rest is in the lent numbers
pub record Tells (c : Checked) (answer element pages page right : ℕ) : Type 0 where
  pub answer-is : answer ≡ number_of c.answer
  pub element-is : element ≡ c.element
  pub pages-are : pages ≡ c.pages
  pub page-is : page ≡ c.wanted.page
  pub right_is : right ≡ c.wanted.right
