use borrow.Author.Tests.{ne_eqb}
use Rattle.std.proofs.lemmas.Result.{err_from_is_err_and}
use Rattle.csr.specs.Csr.{written_of}
use Rattle.csr.proofs.Tests.{allowed, refused}
use Rattle.csr.proofs.write.Goals as goal

pub returns-in_err-accessible : goal.returns-in_err-accessible
unfolding written_of
returns-in_err-accessible c = let p = err_from_is_err_and c.from_residual.result c.from_residual.ensures.1 in
    rw (p.1, p.2, refused _ _ _ _ c.in_err-accessible.ensures)

pub returns-in-8 : goal.returns-in-8
unfolding written_of
returns-in-8 c = rw (allowed _ _ _ _ c.in_ok-accessible.ensures, c.in-8.is, c.with_vstart.ensures, c.from.ensures, c.dirtied-next.ensures)

pub returns-in-9 : goal.returns-in-9
unfolding written_of
returns-in-9 c = rw (allowed _ _ _ _ c.in_ok-accessible.ensures, c.in-9.is, c.with_vxsat.ensures, c.dirtied-next.ensures)

pub returns-in-10 : goal.returns-in-10
unfolding written_of
returns-in-10 c = rw (allowed _ _ _ _ c.in_ok-accessible.ensures, c.in-10.is, c.with_vxrm.ensures, c.dirtied-next.ensures)

pub returns-in-15 : goal.returns-in-15
unfolding written_of
returns-in-15 c = rw (
  allowed _ _ _ _ c.in_ok-accessible.ensures,
  c.in-15.is,
  c.with_vxsat-in-15.ensures,
  c.with_vxrm-in-15.ensures,
  c.dirtied-next.ensures,
)

pub returns-in_default : goal.returns-in_default
unfolding written_of
returns-in_default c = let n = c.in_default.in_default-own.rest in
    rw (allowed _ _ _ _ c.in_ok-accessible.ensures, ne_eqb _ _ n.0.0.0.1, ne_eqb _ _ n.0.0.1, ne_eqb _ _ n.0.1, ne_eqb _ _ n.1)
