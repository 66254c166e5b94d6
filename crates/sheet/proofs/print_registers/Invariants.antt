use Rattle.sheet.proofs.Printing.{Printed}
use Rattle.sheet.proofs.print_registers.Given as goal

abbrev pub invariant-loop-n : goal.invariant-loop-n
invariant-loop-n l = Printed l.registers l.initial.text l.n l.text
