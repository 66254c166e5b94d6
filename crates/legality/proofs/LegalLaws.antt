-- Legality, from what the code has worked out: one law for each way, over plain variables.
use Prim.Native.Nat.{ℕ, ◌<◌}
use mathlib.Core.Path.{◌≡◌, ◌∙◌, subst}
use mathlib.Core.Bool.{Bool, true, false, not, ◌&&◌, ◌||◌, and_assoc}
use lib.Dec.{leb, eqb}
use Rattle.laws.proofs.Apart.{both_left, both_right}
use Rattle.laws.proofs.Chain.{case}
use Rattle.operation.specs.Shape.{largest_sew}
use Rattle.control.specs.declared.Board.{Board}
use Rattle.control.specs.declared.Control.{Control}
use Rattle.control.specs.Control.{is_off}
use Rattle.decode.specs.declared.MaskInstruction.{MaskInstruction}
use Rattle.group.specs.declared.Group.{Group}
use Rattle.group.specs.Group.{mask_group}
use Rattle.plan.specs.declared.Read.{Read}
use Rattle.plan.specs.declared.Read.TheVariants as R
use Rattle.plan.specs.declared.Action.{Action}
use Rattle.plan.specs.declared.Action.TheVariants as A
use Rattle.plan.specs.declared.Compute.{Compute}
use Rattle.plan.specs.declared.Elementwise.{Elementwise}
use Rattle.plan.specs.declared.Sources.{Sources}
use Rattle.plan.specs.declared.OneTurn.{OneTurn}
use Rattle.plan.specs.declared.Plan.{Plan}
use Rattle.plan.specs.declared.Plan.TheVariants as P
use Rattle.legality.specs.Legal.{startable, operands_fit, is_there, elements_legal}
use Rattle.legality.specs.Legal.{writes_mask, mask_apart, one_turn_legal, sources_fit, kind_legal, legal_of, checked_of}
use Rattle.plan.specs.Sources.{sources_of}
use Rattle.plan.specs.Range.{ReadInRange, listed}

-- ---- operands

pub element-range : (r : Read) (g : Group) → r ≡ R.Element g → ReadInRange r → g.reg < 32
element-range r g e h = subst ReadInRange e h

pub bit-range : (r : Read) (n : ℕ) (m : Group) → r ≡ R.Bit n → m ≡ mask_group n → ReadInRange r → m.reg < 32
bit-range r n m e p h = rw p (subst ReadInRange e h)

-- ---- instructions of elements

pub there-is : (a : Action) (k : Compute) (n : ℕ) → a ≡ A.Compute k → n ≡ largest_sew k.op → leb k.sew n ≡ is_there a
there-is a k n e h = case is_there a (A.Compute k) (leb k.sew n) e (rw h)

module _ (b : Board) (c : Control) where
  pub elements-legal-is : (e : Elementwise) (start there fit : Bool) → start ≡ startable b c → there ≡ is_there e.action
      → fit ≡ operands_fit b.elen e → ((not e.typed || start) && there && fit) ≡ elements_legal b c e
  unfolding elements_legal
  elements-legal-is e start there fit p q r = rw (p, q, r, and_assoc)

  -- ---- instructions that take one turn

  -- in the arm of the variant v
  pub one-turn-by : (t v : OneTurn) (r : Bool) → t ≡ v → r ≡ one_turn_legal b c v → r ≡ one_turn_legal b c t
  one-turn-by = case (one_turn_legal b c)

  -- and where v needs vstart 0 beside a rule of its own
  pub from-zero-by : (t v : OneTurn) (start fit rule : Bool) → t ≡ v → start ≡ startable b c → fit ≡ rule
      → (startable b c && (eqb c.vstart 0 && rule)) ≡ one_turn_legal b c v → (start && eqb c.vstart 0 && fit) ≡ one_turn_legal b c t
  from-zero-by t v start fit rule e p q h = one-turn-by t v (start && eqb c.vstart 0 && fit) e (rw (p, q, and_assoc) h)

  -- ---- every plan

  -- in the arm of the variant v
  pub kind-by : (p v : Plan) (r : Bool) → p ≡ v → r ≡ kind_legal b c v → r ≡ kind_legal b c p
  kind-by p v r e h = case (kind_legal b c) p v r e h

  pub legal-off : (p : Plan) (off : Bool) → off ≡ is_off c → off ≡ true → false ≡ legal_of b c p
  unfolding legal_of
  legal-off p off v t = rw (← v, t)

  pub legal-not : (p : Plan) (off kind : Bool) → off ≡ is_off c → off ≡ false → kind ≡ kind_legal b c p → kind ≡ false
      → false ≡ legal_of b c p
  unfolding legal_of
  legal-not p off kind v t h n = rw (← v, t, ← h, n)

  pub legal-is : (p : Plan) (s : Sources) (off kind fit : Bool) → off ≡ is_off c → off ≡ false → kind ≡ kind_legal b c p → kind ≡ true
      → listed s ≡ sources_of p → fit ≡ sources_fit (listed s) → fit ≡ legal_of b c p
  unfolding legal_of
  legal-is p s off kind fit v t h n e k = rw (← v, t, ← h, n, k, e)

  -- of a plan that is legal: VS is not Off, and every other rule
  pub on-of-legal : (p : Plan) → legal_of b c p ≡ true → not (is_off c) ≡ true
  unfolding legal_of
  on-of-legal p h = both_left (not (is_off c)) (kind_legal b c p && sources_fit (sources_of p)) h

  pub rules-of-legal : (p : Plan) → legal_of b c p ≡ true → (kind_legal b c p && sources_fit (sources_of p)) ≡ true
  unfolding legal_of
  rules-of-legal p h = both_right (not (is_off c)) (kind_legal b c p && sources_fit (sources_of p)) h

  -- what the plan's kind asks, of a plan that is legal
  pub elements-of-legal : (e : Elementwise) → legal_of b c (P.Elements e) ≡ true → elements_legal b c e ≡ true
  unfolding kind_legal
  elements-of-legal e h = both_left (elements_legal b c e) (sources_fit (sources_of (P.Elements e))) (rules-of-legal (P.Elements e) h)

  pub one-turn-of-legal : (t : OneTurn) → legal_of b c (P.OneTurn t) ≡ true → one_turn_legal b c t ≡ true
  unfolding kind_legal
  one-turn-of-legal t h = both_left (one_turn_legal b c t) (sources_fit (sources_of (P.OneTurn t))) (rules-of-legal (P.OneTurn t) h)

  pub checked-legal : (p q : Plan) (t : Bool) → p ≡ q → t ≡ legal_of b c p → t ≡ true → p ≡ checked_of b c q
  checked-legal p q t e h k = e ∙ rw (← e, ← h, k)

  pub checked-illegal : (p q : Plan) (t : Bool) → p ≡ q → t ≡ legal_of b c p → t ≡ false → P.Illegal ≡ checked_of b c q
  checked-illegal p q t e h k = rw (← e, ← h, k)

pub four-are : (p q r s w x y z : Bool) → p ≡ w → q ≡ x → r ≡ y → s ≡ z → (p && q && r && s) ≡ (w && (x && (y && z)))
four-are p q r s w x y z e f g h = rw (e, f, g, h, and_assoc, and_assoc)

pub apart-is : (m : MaskInstruction) (w : Bool) → w ≡ writes_mask m.op
    → (not w || (not (eqb m.rd m.vs2) && (not m.masked || not (eqb m.rd 0)))) ≡ mask_apart m
apart-is m w h = rw h
