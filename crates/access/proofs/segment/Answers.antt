use Rattle.access.proofs.AccessLaws.{handed-on, testing-none, testing-faulted, testing-more, testing-done}
use Rattle.access.proofs.segment.Goals as goal

pub loop-init : goal.loop-init
loop-init c = search testing-none

pub returns-in_err-access : goal.returns-in_err-access
returns-in_err-access c = search (testing-faulted, handed-on, c.in_err-access.was)

pub loop-preserved : goal.loop-preserved
loop-preserved c = search (testing-more, c.in_ok-access.was)

pub returns : goal.returns
returns c = search testing-done
