-- Each two of the sources: two by two over lists of groups, and from what the code has worked out of two operands.
use Prim.Native.Nat.{ℕ}
use mathlib.Core.Path.{◌≡◌, refl, sym}
use mathlib.Core.Bool.{Bool, true, false, ◌&&◌, and_assoc, and-true}
use mathlib.Core.List.{List, [], ◌∷◌, ◌++◌}
use Rattle.group.specs.declared.Group.{Group}
use Rattle.group.specs.Group.{mask_group, may_share_of}
use Rattle.plan.specs.declared.Read.{Read}
use Rattle.plan.specs.declared.Read.TheVariants as R
use Rattle.plan.specs.declared.Sources.{Sources}
use Rattle.plan.specs.Sources.{registers_read}
use Rattle.plan.specs.Range.{listed}
use Rattle.legality.specs.Legal.{may_share_each, sources_fit}

-- ---- lists of groups

-- each of the first list beside each of the second
abbrev across : List Group → List Group → Bool
across [] others = true
across (s ∷ sources) others = may_share_each s others && across sources others

each-of-both : (s : Group) (l m : List Group) → may_share_each s (l ++ m) ≡ (may_share_each s l && may_share_each s m)
each-of-both s [] m = refl
each-of-both s (x ∷ l) m = simp (each-of-both s l m, and_assoc)

across-of-both : (k l m : List Group) → across (k ++ l) m ≡ (across k m && across l m)
across-of-both [] l m = refl
across-of-both (x ∷ k) l m = simp (across-of-both k l m, and_assoc)

exchanged : (p q r s t : Bool) → ((p && q) && (r && (s && t))) ≡ ((p && r) && ((q && s) && t))
exchanged true true r s t = refl
exchanged true false true s t = refl
exchanged true false false s t = refl
exchanged false q r s t = refl

fit-of-both : (l m : List Group) → sources_fit (l ++ m) ≡ (sources_fit l && (across l m && sources_fit m))
unfolding sources_fit
fit-of-both [] m = refl
fit-of-both (x ∷ l) m =
    rw (each-of-both x l m, fit-of-both l m)
    (exchanged (may_share_each x l) (may_share_each x m) (sources_fit l) (across l m) (sources_fit m))

-- ---- operands

read-fits-alone : (a : Read) → sources_fit (registers_read a) ≡ true
unfolding sources_fit
read-fits-alone (R.Constant n) = refl
read-fits-alone (R.Element g) = refl
read-fits-alone (R.Bit reg) = refl

pub sources-are : (s : Sources) (p q r t u v : Bool)
    → p ≡ sources_fit (registers_read s.vs2 ++ registers_read s.vs1)
    → q ≡ sources_fit (registers_read s.vs2 ++ registers_read s.vd)
    → r ≡ sources_fit (registers_read s.vs1 ++ registers_read s.vd)
    → t ≡ sources_fit (registers_read s.vs2 ++ registers_read s.v0)
    → u ≡ sources_fit (registers_read s.vs1 ++ registers_read s.v0)
    → v ≡ sources_fit (registers_read s.vd ++ registers_read s.v0)
    → (p && q && r && t && u && v) ≡ sources_fit (listed s)
sources-are s p q r t u v e1 e2 e3 e4 e5 e6 =
    simp (e1, e2, e3, e4, e5, e6, fit-of-both, across-of-both, read-fits-alone, and-true, and_assoc)

-- ---- a source beside an operand, in the arm of the operand

module _ (s : Group) (read : Read) where
  pub constant-shared : (n : ℕ) → read ≡ R.Constant n → true ≡ may_share_each s (registers_read read)
  constant-shared n e = rw e refl

  pub element-shared : (g : Group) (q : Bool) → read ≡ R.Element g → q ≡ may_share_of s g → q ≡ may_share_each s (registers_read read)
  element-shared g q e h = rw (e, h) (sym (and-true (may_share_of s g)))

  pub bit-shared : (n : ℕ) (m : Group) (q : Bool) → read ≡ R.Bit n → m ≡ mask_group n → q ≡ may_share_of s m
      → q ≡ may_share_each s (registers_read read)
  bit-shared n m q e k h = rw (e, h, k) (sym (and-true (may_share_of s (mask_group n))))

-- ---- two operands, in the arm of the first

module _ (a b : Read) where
  pub constant-paired : (n : ℕ) → a ≡ R.Constant n → true ≡ sources_fit (registers_read a ++ registers_read b)
  constant-paired n e = rw (e, read-fits-alone b) refl

  pub element-paired : (g : Group) (q : Bool) → a ≡ R.Element g → q ≡ may_share_each g (registers_read b)
      → q ≡ sources_fit (registers_read a ++ registers_read b)
  unfolding sources_fit
  element-paired g q e h = rw (e, h, read-fits-alone b) (sym (and-true (may_share_each g (registers_read b))))

  pub bit-paired : (n : ℕ) (m : Group) (q : Bool) → a ≡ R.Bit n → m ≡ mask_group n → q ≡ may_share_each m (registers_read b)
      → q ≡ sources_fit (registers_read a ++ registers_read b)
  unfolding sources_fit
  bit-paired n m q e k h = rw (e, h, k, read-fits-alone b) (sym (and-true (may_share_each (mask_group n) (registers_read b))))
