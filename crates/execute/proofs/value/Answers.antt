use Rattle.std.proofs.Common.{refl}
use Rattle.machine.specs.Effect.{value_of}
use Rattle.execute.specs.Step.{ReadInside}
use Rattle.execute.proofs.StepLaws.{read-inside, value-of}
use Rattle.execute.proofs.value.Goals as goal

pub read_element-requires : goal.read_element-requires
unfolding value_of ReadInside
read_element-requires c = read-inside _ _ _ _ _ c.in-Element.is c.requires

pub read_element-requires-in-Bit : goal.read_element-requires-in-Bit
unfolding value_of ReadInside
read_element-requires-in-Bit c = read-inside _ _ _ _ _ c.in-Bit.is c.requires

pub returns-in-Constant : goal.returns-in-Constant
unfolding value_of ReadInside
returns-in-Constant c = value-of _ _ _ _ _ _ c.in-Constant.is refl

pub returns-in-Element : goal.returns-in-Element
unfolding value_of ReadInside
returns-in-Element c = value-of _ _ _ _ _ _ c.in-Element.is c.read_element.ensures.0

pub returns-in-Bit : goal.returns-in-Bit
unfolding value_of ReadInside
returns-in-Bit c = value-of _ _ _ _ _ _ c.in-Bit.is c.read_element-in-Bit.ensures.0
