-- The fields of one segment do not meet.
use Rattle.std.specs.Prelude.{Ok}
use Prim.Native.Nat.{ℕ, suc, ◌+◌, ◌*◌, ◌^◌, ◌≤◌, ◌<◌}
use mathlib.Core.Path.{◌≡◌, refl, sym}
use mathlib.Core.Bool.{Bool, true}
use mathlib.Core.List.{List}
use native.Mathlib.Omega.{arith}
use native.Mathlib.Nat.{mod-eq_of_lt, mul-le-mul_right}
use borrow.Author.Tests.{le-leb}
use Rattle.group.specs.declared.Group.{Group}
use Rattle.group.specs.Group.{registers_of, field_group, span_of, apart_of}
use Rattle.access.specs.Access.{field_address, fields_access}
use Rattle.access.proofs.AccessLaws.{segment-inside}
use Rattle.machine.specs.FieldsApart.{FieldsApart}

registers-apart : (g : Group) (j k : ℕ) → j < k → apart_of (field_group g j) (field_group g k) ≡ true
registers-apart g j k l =
    let below : (field_group g j).reg + span_of (field_group g j) ≤ (field_group g k).reg =
    omega (arith, mul-le-mul_right (registers_of g) l) in
    rw (le-leb _ _ below)

memory-apart : (rights : List ℕ) (memory : ℕ) (store : Bool) (a n nf j k : ℕ) → memory ≤ 65536 → a < 2 ^ 64
    → fields_access rights memory store a n 0 (suc nf) ≡ Ok tt → j < k → k ≤ nf → field_address a n j + n ≤ field_address a n k
memory-apart rights memory store a n nf j k m l h u v =
    let all : a + suc nf * n ≤ memory = segment-inside rights memory store a n m nf (Ok tt) (record { fits = l }) (sym h) refl in
    let here : a + k * n < 2 ^ 64 = omega (arith, all, mul-le-mul_right n v) in
    let before : a + j * n < 2 ^ 64 = omega (arith, here, mul-le-mul_right n u) in
    let plain : field_address a n k ≡ a + k * n = mod-eq_of_lt here in
    let lower : field_address a n j ≡ a + j * n = mod-eq_of_lt before in
    omega (arith, plain, lower, mul-le-mul_right n u)

pub fields-apart : FieldsApart
fields-apart = record { registers-apart = registers-apart; memory-apart = memory-apart }
