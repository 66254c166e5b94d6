-- For contracts of inner functions, not to be believed: what viota.m and vcompress.vm rely on, and one step of them.
use Rattle.std.specs.Prelude.{ℕ, ◌%◌, ◌^◌, ◌≤◌, ◌<◌, ◌≡◌, true, cond, List}
use Rattle.width.specs.Width.{Width}
use Rattle.decode.specs.declared.PackOp.{PackOp}
use Rattle.decode.specs.declared.PackOp.TheVariants.{Viota, Vcompress}
use Rattle.layout.specs.Layout.{with_element, Inside}
use Rattle.plan.specs.declared.Read.{Read}
use Rattle.plan.specs.declared.Read.TheVariants as R
use Rattle.plan.specs.declared.Packing.{Packing}
use Rattle.machine.specs.Effect.{value_of, active_of}
use Rattle.machine.specs.OneTurn.{set_at}
use Rattle.execute.specs.Step.{ReadInside}

-- element i of all operands lies inside a register file of so many bytes, and so does element n of the destination
pub record Reachable (size vlenb : ℕ) (p : Packing) (i n : ℕ) : Type 0 where
  pub width : Width p.vd.eew
  pub few : n ≤ i
  pub most : i < 128
  pub here : Inside size vlenb p.vd.reg p.vd.eew i
  pub there : Inside size vlenb p.vd.reg p.vd.eew n
  pub elements : ReadInside size vlenb p.elements i
  pub mask : Inside size vlenb p.mask 1 i
  pub v0 : Inside size vlenb 0 1 i

-- the file after element i, where n bits are set below it
abbrev pub packed_at : ℕ → List ℕ → Packing → ℕ → ℕ → PackOp → List ℕ
packed_at vlenb file p i n Viota =
    cond (active_of vlenb file p.masked i) (with_element vlenb file p.vd.reg p.vd.eew i (n % 2 ^ p.vd.eew)) file
packed_at vlenb file p i n Vcompress =
    cond (set_at vlenb file p.masked p.mask i)
    (with_element vlenb file p.vd.reg p.vd.eew n (value_of vlenb file p.elements i)) file

-- a register or group that is read: each of its elements below vl is as it was after any such element of the destination is written
abbrev pub KeepsRead : ℕ → Packing → ℕ → Read → Type 0
KeepsRead vlenb p vl r =
    (file : List ℕ) (m x j : ℕ) → m < vl → j < vl
    → value_of vlenb (with_element vlenb file p.vd.reg p.vd.eew m x) r j ≡ value_of vlenb file r j

-- all elements below vl are inside, and no source is overwritten
pub record Packable (size vlenb : ℕ) (p : Packing) (vl : ℕ) : Type 0 where
  pub reachable : (i n : ℕ) → i < vl → n ≤ i → Reachable size vlenb p i n
  pub elements : KeepsRead vlenb p vl p.elements
  pub mask : KeepsRead vlenb p vl (R.Bit p.mask)
  pub v0 : p.masked ≡ true → KeepsRead vlenb p vl (R.Bit 0)
