use Rattle.text.proofs.TextLaws.{digit_low, digit-high}
use Rattle.text.proofs.hex_digit.Goals as goal

pub returns-then-low-lt10 : goal.returns-then-low-lt10
returns-then-low-lt10 c = search digit_low

pub returns-else-low-lt10 : goal.returns-else-low-lt10
returns-else-low-lt10 c = search digit-high
