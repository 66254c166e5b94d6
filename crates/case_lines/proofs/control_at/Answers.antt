use Rattle.case_lines.proofs.control_at.Goals as goal

pub returns : goal.returns
returns c = cc
