use Rattle.legality.proofs.LegalLaws.{legal-off, legal-not, legal-is}
use Rattle.legality.proofs.legal.Goals as goal

pub returns-then-is_off : goal.returns-then-is_off
returns-then-is_off c = search legal-off

pub returns-then-not-kind_legal : goal.returns-then-not-kind_legal
returns-then-not-kind_legal c = search legal-not

pub returns : goal.returns
returns c = search legal-is
