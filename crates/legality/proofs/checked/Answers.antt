use Rattle.plan.proofs.RangeLaws.{planned-range}
use Rattle.legality.proofs.LegalLaws.{checked-legal, checked-illegal}
use borrow.Author.Rules.{rules}
use Rattle.legality.proofs.checked.Goals as goal

pub legal-requires : goal.legal-requires
legal-requires c = search (rules, planned-range)

pub returns-then-legal : goal.returns-then-legal
returns-then-legal c = search checked-legal

pub returns : goal.returns
returns c = search checked-illegal
