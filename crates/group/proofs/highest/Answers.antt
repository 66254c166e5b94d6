use Rattle.group.proofs.highest.Goals as goal

pub returns : goal.returns
returns c = rw (c.registers.ensures, c.registers-2.ensures)
