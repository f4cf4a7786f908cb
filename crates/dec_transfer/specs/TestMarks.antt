-- The marks of a value after a test: those that its last step leaves.
use Rattle.std.specs.Prelude.{◌≡◌, Bool, true, false, None}
use Rattle.oct_def.specs.Octagon.{Octagon, join_value}
use Rattle.spl_core.specs.declared.parts.Cmp.{Cmp}
use Rattle.spl_core.specs.declared.parts.Cmp.TheVariants as cmp
use Rattle.spl_core.specs.Expression.{Expression}
use Rattle.spl_core.specs.Condition.{Condition, Constant, Random, Not, And, Or, Compare}
use Rattle.transfer_def.specs.Test.{below_value, compare_value}
use Rattle.dec_oct.specs.Value.{Decomposed, decomposed, octagon, IsKept}
use Rattle.dec_oct.specs.Cost.{TellsAgainOf}
use Rattle.dec_lattice.specs.Marks.{JoinsMarks}

-- a tight closure was the last step: a block is marked exactly where its tight closure is its matrix again
pub record IsClosedTo (w : Octagon) (r : Decomposed) : Type 0 where
  pub value : octagon r ≡ w
  pub marks : TellsAgainOf r.blocks

-- a join of two values was the last step: the marks are those that a join leaves
pub record IsJoinOf (a b r : Decomposed) : Type 0 where
  pub first : IsKept a
  pub second : IsKept b
  pub value : octagon r ≡ join_value (octagon a) (octagon b)
  pub marks : JoinsMarks a.blocks b.blocks r.blocks

-- two expressions differ: a value closed where the first is less is joined to one closed where it's more
pub record IsApart (a b : Expression) (v r : Decomposed) : Type 0 where
  pub less : Decomposed
  pub more : Decomposed
  pub below : IsClosedTo (below_value a b (octagon v)) less
  pub above : IsClosedTo (below_value b a (octagon v)) more
  pub join : IsJoinOf less more r

-- a value after a comparison
abbrev pub IsCompared : Cmp → Bool → Expression → Expression → Decomposed → Decomposed → Type 0
IsCompared cmp.Eq true a b v r = IsClosedTo (compare_value cmp.Eq true a b (octagon v)) r
IsCompared cmp.Eq false a b v r = IsApart a b v r
IsCompared cmp.Ne true a b v r = IsApart a b v r
IsCompared cmp.Ne false a b v r = IsClosedTo (compare_value cmp.Ne false a b (octagon v)) r
IsCompared cmp.Lt wanted a b v r = IsClosedTo (compare_value cmp.Lt wanted a b (octagon v)) r
IsCompared cmp.Le wanted a b v r = IsClosedTo (compare_value cmp.Le wanted a b (octagon v)) r
IsCompared cmp.Gt wanted a b v r = IsClosedTo (compare_value cmp.Gt wanted a b (octagon v)) r
IsCompared cmp.Ge wanted a b v r = IsClosedTo (compare_value cmp.Ge wanted a b (octagon v)) r

-- a constant passes the value on, or leaves Bottom
abbrev pub IsPassed : Bool → Bool → Decomposed → Decomposed → Type 0
IsPassed true true v r = r ≡ v
IsPassed true false v r = r ≡ decomposed v.dims None
IsPassed false true v r = r ≡ decomposed v.dims None
IsPassed false false v r = r ≡ v

-- a value r after a test of v
unfoldable pub IsTested : Condition → Bool → Decomposed → Decomposed → Type 0
IsTested (Constant value) wanted v r = IsPassed value wanted v r
IsTested Random wanted v r = r ≡ v
IsTested (Not c) true v r = IsTested c false v r
IsTested (Not c) false v r = IsTested c true v r
IsTested (And c d) true v r = (m : Decomposed) × IsKept m × IsTested c true v m × IsTested d true m r
IsTested (And c d) false v r = (a : Decomposed) × (b : Decomposed) × IsTested c false v a × IsTested d false v b × IsJoinOf a b r
IsTested (Or c d) true v r = (a : Decomposed) × (b : Decomposed) × IsTested c true v a × IsTested d true v b × IsJoinOf a b r
IsTested (Or c d) false v r = (m : Decomposed) × IsKept m × IsTested c false v m × IsTested d false m r
IsTested (Compare relation a b) wanted v r = IsCompared relation wanted a b v r
