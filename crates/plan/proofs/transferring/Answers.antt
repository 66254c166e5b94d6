use Rattle.control.proofs.Laws.{valid}
use Rattle.decode.specs.declared.Mode.TheVariants as M
use Rattle.decode.specs.Fields.{ModeFits}
use Rattle.plan.proofs.OperandLaws.{variant_fits, sew-small}
use Rattle.plan.proofs.AccessLaws.{access-some, access-most, segment-fits, whole-emul, whole-emul32, whole-bits}
use Rattle.plan.proofs.AccessLaws.{unit-is, strided-is, indexed-is, mask_is, whole_is}
use Rattle.plan.proofs.transferring.Goals as goal

ruleset group-eew = (sew-small, access-most)

pub overflow_mul-stride : goal.overflow_mul-stride
overflow_mul-stride c = search segment-fits

pub groups_at-group-requires : goal.groups_at-group-requires
groups_at-group-requires c = search group-eew

pub scalar-stride-requires : goal.scalar-stride-requires
scalar-stride-requires c = search (variant_fits ModeFits M.Strided)

pub groups_at-group-requires-in-Strided : goal.groups_at-group-requires-in-Strided
groups_at-group-requires-in-Strided c = search group-eew

pub groups_at-requires : goal.groups_at-requires
groups_at-requires c = search group-eew

pub groups_at-group-requires-in-Indexed : goal.groups_at-group-requires-in-Indexed
groups_at-group-requires-in-Indexed c = search group-eew

pub overflow_mul-end-in-Whole : goal.overflow_mul-end-in-Whole
overflow_mul-end-in-Whole c = search (whole-bits, valid)

pub nonzero_div-end : goal.nonzero_div-end
nonzero_div-end c = search access-some

pub overflow_mul-group : goal.overflow_mul-group
overflow_mul-group c = search whole-emul

pub overflow_cast-group : goal.overflow_cast-group
overflow_cast-group c = search whole-emul32

pub returns-in-UnitStride : goal.returns-in-UnitStride
returns-in-UnitStride c = search unit-is

pub returns-in-Strided : goal.returns-in-Strided
returns-in-Strided c = search strided-is

pub returns-in-Indexed : goal.returns-in-Indexed
returns-in-Indexed c = search indexed-is

pub returns-in-MaskBytes : goal.returns-in-MaskBytes
returns-in-MaskBytes c = search mask_is

pub returns-in-Whole : goal.returns-in-Whole
returns-in-Whole c = search whole_is
