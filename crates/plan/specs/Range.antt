-- For contracts of inner functions, not to be believed: the registers of a plan are register numbers that there are; its sources in the
-- record that the code has them in.
use Rattle.std.specs.Prelude.{◌<◌, ◌≡◌, List, ◌++◌}
use Rattle.decode.specs.Fields.{SettingFits, MaskFits}
use Rattle.group.specs.declared.Group.{Group}
use Rattle.plan.specs.declared.Read.{Read}
use Rattle.plan.specs.declared.Read.TheVariants as R
use Rattle.plan.specs.declared.Elementwise.{Elementwise}
use Rattle.plan.specs.declared.Reduction.{Reduction}
use Rattle.plan.specs.declared.Packing.{Packing}
use Rattle.plan.specs.declared.ScalarMove.{ScalarMove}
use Rattle.plan.specs.declared.Sources.{Sources}
use Rattle.plan.specs.declared.OneTurn.{OneTurn}
use Rattle.plan.specs.declared.OneTurn.TheVariants as O
use Rattle.plan.specs.declared.Plan.{Plan}
use Rattle.plan.specs.declared.Plan.TheVariants as P
use Rattle.plan.specs.Sources.{registers_read}

abbrev pub ReadInRange : Read → Type 0
ReadInRange (R.Constant n) = Unit {0}
ReadInRange (R.Element g) = g.reg < 32
ReadInRange (R.Bit reg) = reg < 32

pub record InRange (e : Elementwise) : Type 0 where
  pub dest : e.dest.reg < 32
  pub vs2 : ReadInRange e.vs2
  pub vs1 : ReadInRange e.vs1
  pub vd : ReadInRange e.vd
  pub v0 : ReadInRange e.v0

pub record ReductionInRange (r : Reduction) : Type 0 where
  pub vd : r.vd.reg < 32
  pub vs2 : r.vs2.reg < 32
  pub vs1 : r.vs1.reg < 32

pub record PackingInRange (p : Packing) : Type 0 where
  pub vd : p.vd.reg < 32
  pub elements : ReadInRange p.elements
  pub mask : p.mask < 32

pub record ScalarMoveInRange (m : ScalarMove) : Type 0 where
  pub vector : m.vector.reg < 32
  pub scalar : m.scalar < 32

abbrev pub OneTurnFits : OneTurn → Type 0
OneTurnFits (O.Setting t) = SettingFits t
OneTurnFits (O.Mask m) = MaskFits m
OneTurnFits (O.Reduction r) = ReductionInRange r
OneTurnFits (O.Packing p) = PackingInRange p
OneTurnFits (O.ScalarMove m) = ScalarMoveInRange m

abbrev pub PlanFits : Plan → Type 0
PlanFits P.Illegal = Unit {0}
PlanFits (P.OneTurn t) = OneTurnFits t
PlanFits (P.Elements e) = InRange e

abbrev pub listed : Sources → List Group
listed s = registers_read s.vs2 ++ registers_read s.vs1 ++ registers_read s.vd ++ registers_read s.v0

pub record SourcesInRange (s : Sources) : Type 0 where
  pub vs2 : ReadInRange s.vs2
  pub vs1 : ReadInRange s.vs1
  pub vd : ReadInRange s.vd
  pub v0 : ReadInRange s.v0

-- the sources are those of the list
abbrev pub Lists : List Group → Sources → Type 0
Lists l s = (listed s ≡ l) × SourcesInRange s
