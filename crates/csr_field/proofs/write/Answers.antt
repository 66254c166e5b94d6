use Rattle.csr_field.proofs.FieldLaws.{vstart-stored, vxsat-stored, vxrm-stored, vcsr-stored}
use Rattle.csr_field.proofs.write.Goals.{in-8, in-9, in-10, in_default}
use Rattle.csr_field.proofs.write.Goals as goal

pub returns-clause-stored : goal.returns-clause-stored
returns-clause-stored c =
    elim c.match-csr.branch [
      | in-8 w ↦ rw w.control-is (vstart-stored _ _ _ _ _ w.in-8.is c.in_ok-next.ensures)
      | in-9 w ↦ rw w.control-is (vxsat-stored _ _ _ _ _ w.in-9.is c.in_ok-next.ensures)
      | in-10 w ↦ rw w.control-is (vxrm-stored _ _ _ _ _ w.in-10.is c.in_ok-next.ensures)
      | in_default w ↦ rw w.control-is
          (let n = w.in_default.in_default-own.rest in vcsr-stored _ _ _ _ _ n.0.0.1 n.0.1 n.1 c.in_ok-next.ensures)
    ]
