use native.Mathlib.Omega.{arith}
use borrow.Author.Tests.{ne_eqb}
use Rattle.std.proofs.lemmas.Result.{err_from_is_err_and}
use Rattle.control.proofs.Laws.{possible-apart}
use Rattle.csr.specs.Csr.{read_of}
use Rattle.csr.proofs.Tests.{allowed, refused, allowed-possible}
use Rattle.csr.proofs.read.Goals as goal

pub returns-in_err-accessible : goal.returns-in_err-accessible
unfolding read_of
returns-in_err-accessible c = let p = err_from_is_err_and c.from_residual.result c.from_residual.ensures.1 in
    rw (p.1, p.2, refused _ _ _ _ c.in_err-accessible.ensures)

pub overflow_mul-result : goal.overflow_mul-result
overflow_mul-result c = omega (arith, possible-apart _ _ (allowed-possible _ _ _ c.in_ok-accessible.ensures))

pub overflow_add-result : goal.overflow_add-result
overflow_add-result c = omega (arith, possible-apart _ _ (allowed-possible _ _ _ c.in_ok-accessible.ensures))

pub returns-in-8 : goal.returns-in-8
unfolding read_of
returns-in-8 c = rw (allowed _ _ _ _ c.in_ok-accessible.ensures, c.in-8.is)

pub returns-in-9 : goal.returns-in-9
unfolding read_of
returns-in-9 c = rw (allowed _ _ _ _ c.in_ok-accessible.ensures, c.in-9.is)

pub returns-in-10 : goal.returns-in-10
unfolding read_of
returns-in-10 c = rw (allowed _ _ _ _ c.in_ok-accessible.ensures, c.in-10.is)

pub returns-in-15 : goal.returns-in-15
unfolding read_of
returns-in-15 c = rw (allowed _ _ _ _ c.in_ok-accessible.ensures, c.in-15.is)

pub returns-in-3104 : goal.returns-in-3104
unfolding read_of
returns-in-3104 c = rw (allowed _ _ _ _ c.in_ok-accessible.ensures, c.in-3104.is)

pub returns-in-3105 : goal.returns-in-3105
unfolding read_of
returns-in-3105 c = rw (allowed _ _ _ _ c.in_ok-accessible.ensures, c.in-3105.is)

pub returns-in-3106 : goal.returns-in-3106
unfolding read_of
returns-in-3106 c = rw (allowed _ _ _ _ c.in_ok-accessible.ensures, c.in-3106.is, c.from.ensures)

pub returns-in_default : goal.returns-in_default
unfolding read_of
returns-in_default c = let n = c.in_default.in_default-own.rest in
    rw (
      allowed _ _ _ _ c.in_ok-accessible.ensures,
      ne_eqb _ _ n.0.0.0.0.0.0.1,
      ne_eqb _ _ n.0.0.0.0.0.1,
      ne_eqb _ _ n.0.0.0.0.1,
      ne_eqb _ _ n.0.0.0.1,
      ne_eqb _ _ n.0.0.1,
      ne_eqb _ _ n.0.1,
      ne_eqb _ _ n.1,
    )
