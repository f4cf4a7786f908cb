-- The marks of a value after a test, by the parts of the condition.
use Rattle.std.proofs.Common.{◌≡◌, Bool, true, false, not, subst, sym}
use Rattle.spl_core.specs.declared.parts.Cmp.{Cmp}
use Rattle.spl_core.specs.declared.parts.Cmp.TheVariants as cmp
use Rattle.spl_core.specs.Expression.{Expression}
use Rattle.spl_core.specs.Condition.{Condition, Constant, Random, Not, And, Or, Compare, asked}
use Rattle.dec_oct.specs.Value.{Decomposed, IsKept}
use Rattle.dec_transfer.specs.TestMarks.{IsJoinOf, IsCompared, IsPassed, IsTested}

-- a value after a condition that is another one, wanted as another flag says
same-test : (c e : Condition) (w b : Bool) (v r : Decomposed) → c ≡ e → w ≡ b → IsTested c b v r → IsTested e w v r
same-test c e w b v r p q h = subst (λ x. IsTested x w v r) p (subst (λ x. IsTested c x v r) (sym q) h)

pub constant-marks : (value w : Bool) (c : Condition) (v r : Decomposed) → Constant value ≡ c → IsPassed value w v r → IsTested c w v r
unfolding IsTested
constant-marks value w c v r e h = subst (λ x. IsTested x w v r) e h

pub random-marks : (w : Bool) (c : Condition) (v r : Decomposed) → Random ≡ c → r ≡ v → IsTested c w v r
unfolding IsTested
random-marks w c v r e h = subst (λ x. IsTested x w v r) e h

not-marked : (c : Condition) (w : Bool) (v r : Decomposed) → IsTested c (not w) v r → IsTested (Not c) w v r
unfolding IsTested
not-marked c true v r h = h
not-marked c false v r h = h

pub not-marks : (w : Bool) (c e : Condition) (v r : Decomposed) → Not c ≡ e → IsTested c (not w) v r → IsTested e w v r
not-marks w c e v r p h = subst (λ x. IsTested x w v r) p (not-marked c w v r h)

pub compare-marks : (k : Cmp) (w : Bool) (a b : Expression) (c : Condition) (v r : Decomposed) → Compare k a b ≡ c → IsCompared k w a b v r → IsTested c w v r
unfolding IsTested
compare-marks k w a b c v r e h = subst (λ x. IsTested x w v r) e h

-- the comparison that is asked for, which holds
asked-compared : (r : Cmp) (w : Bool) (a b : Expression) (v x : Decomposed) → IsCompared (asked r w) true a b v x → IsCompared r w a b v x
asked-compared r true a b v x h = h
asked-compared cmp.Eq false a b v x h = h
asked-compared cmp.Ne false a b v x h = h
asked-compared cmp.Lt false a b v x h = h
asked-compared cmp.Le false a b v x h = h
asked-compared cmp.Gt false a b v x h = h
asked-compared cmp.Ge false a b v x h = h

pub asked-marks : (r k : Cmp) (w : Bool) (a b : Expression) (v x : Decomposed) → k ≡ asked r w → IsCompared k true a b v x → IsCompared r w a b v x
asked-marks r k w a b v x e h = asked-compared r w a b v x (subst (λ i. IsCompared i true a b v x) e h)

-- one condition and then the other
pub and-true-marks : (w : Bool) (c d e : Condition) (v m r : Decomposed) → And c d ≡ e → w ≡ true → IsKept m → IsTested c true v m → IsTested d true m r → IsTested e w v r
unfolding IsTested
and-true-marks w c d e v m r p q k h i = same-test (And c d) e w true v r p q (m, k, h, i)

pub or-false-marks : (w : Bool) (c d e : Condition) (v m r : Decomposed) → Or c d ≡ e → w ≡ false → IsKept m → IsTested c false v m → IsTested d false m r → IsTested e w v r
unfolding IsTested
or-false-marks w c d e v m r p q k h i = same-test (Or c d) e w false v r p q (m, k, h, i)

-- either of two conditions
pub and-false-marks : (w : Bool) (c d e : Condition) (v a b r : Decomposed) → And c d ≡ e → w ≡ false → IsTested c false v a → IsTested d false v b → IsJoinOf a b r → IsTested e w v r
unfolding IsTested
and-false-marks w c d e v a b r p q h i j = same-test (And c d) e w false v r p q (a, b, h, i, j)

pub or-true-marks : (w : Bool) (c d e : Condition) (v a b r : Decomposed) → Or c d ≡ e → w ≡ true → IsTested c true v a → IsTested d true v b → IsJoinOf a b r → IsTested e w v r
unfolding IsTested
or-true-marks w c d e v a b r p q h i j = same-test (Or c d) e w true v r p q (a, b, h, i, j)
