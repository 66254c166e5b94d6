-- The fields of one segment do not meet, so that the order in which they are moved shows nowhere (section 8.8: their "accesses .. are
-- unordered with respect to each other").
use Rattle.std.specs.Prelude.{ℕ, suc, ◌+◌, ◌^◌, ◌≤◌, ◌<◌, ◌≡◌, Bool, true, List, Ok}
use Rattle.group.specs.declared.Group.{Group}
use Rattle.group.specs.Group.{field_group, apart_of}
use Rattle.access.specs.Access.{field_address, fields_access}

pub record FieldsApart : Type 0 where
  -- two fields have no register in common
  pub registers-apart : (g : Group) (j k : ℕ) → j < k → apart_of (field_group g j) (field_group g k) ≡ true
  -- where all fields from address a on are granted, each ends before the next begins
  pub memory-apart : (rights : List ℕ) (memory : ℕ) (store : Bool) (a n nf j k : ℕ) → memory ≤ 65536 → a < 2 ^ 64
      → fields_access rights memory store a n 0 (suc nf) ≡ Ok tt → j < k → k ≤ nf → field_address a n j + n ≤ field_address a n k
