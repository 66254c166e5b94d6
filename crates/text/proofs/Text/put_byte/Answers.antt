use Rattle.text.proofs.TextLaws.{byte_fits, byte-lost}
use borrow.Author.Rules.{rules}
use Rattle.text.proofs.Text.put_byte.Goals as goal
use Rattle.text.proofs.Text.put_byte.Goals.{then-self, else-self}

pub returns : goal.returns
returns c = record {
  wrote = elim c.if-self.branch [ then-self w ↦ search (rules, byte_fits) | else-self w ↦ search (rules, byte-lost) ];
  same_buffer = elim c.if-self.branch [ then-self w ↦ search rules | else-self w ↦ search rules ];
}
