-- Tests by the forms of differences, and by the parts of a condition.
use Rattle.std.proofs.Common.{◌≡◌, ℕ, ◌<◌, List, length, get_or, Bool, true, false, not, Option, pos, negsuc, refl, sym, ap, subst, ◌∙◌}
use Rattle.std.specs.Option.{option_and_then}
use Rattle.oct_def.specs.Table.{Matrix}
use Rattle.oct_def.specs.Tight.{tight}
use Rattle.oct_def.specs.Octagon.{Octagon, join_value}
use Rattle.spl_core.specs.declared.parts.Cmp.{Cmp}
use Rattle.spl_core.specs.declared.parts.Cmp.TheVariants as cmp
use Rattle.spl_core.specs.declared.parts.CoreCond.{CoreCond}
use Rattle.spl_core.specs.Parts.{Parts}
use Rattle.spl_core.specs.Facts.{CondFits, IsCore}
use Rattle.spl_core.specs.Laws.{NumbersStandForNodes}
use Rattle.spl_core.specs.Expression.{Expression, IsOver}
use Rattle.spl_core.specs.Condition.{Condition, Constant, Random, Not, And, Or, Compare, IsConditionOver, asked}
use Rattle.spl_core.specs.Graph.{exprs_in, cond_at, cond_over, conds_in}
use Rattle.spl_runs.proofs.Parted.{condition_node}
use Rattle.interval_form.specs.declared.interval.Interval.{Interval}
use Rattle.interval_form.specs.Interval.{ranges_of, point, negated, difference_of, sum_of}
use Rattle.interval_form.specs.Form.{Form, nothing, coefficient}
use Rattle.interval_form.specs.Linear.{constant_form, no_terms, linear_form, difference_form, difference_term, sum_form, sum_term, settled}
use Rattle.interval_form.specs.FormBounds.{bounded}
use Rattle.interval_form.proofs.Forms.{coefficient-form_of, constant-form_of}
use Rattle.interval_form.proofs.Dense.{same_form}
use Rattle.interval_form.proofs.Bounding.{length-ranges_of}
use Rattle.transfer_def.specs.Test.{difference_in, difference_and_one, restricted, restrict_at_most, restrict_below, at_most_value, below_value, equal_value, different_value, compare_value, constant_value, test_value}
use Rattle.transfer_def.proofs.Tests.{dims-test_value}

-- ---- forms

-- minus the constant -1 is plus the constant 1
minus_one : (n : ℕ) (v : ℕ) → v < n → coefficient (constant_form n (point (negsuc 0))) v ≡ nothing
unfolding constant_form no_terms
minus_one n v l = coefficient-form_of n (point (negsuc 0)) no_terms v l

one : (n : ℕ) (v : ℕ) → v < n → coefficient (constant_form n (point (pos 1))) v ≡ nothing
unfolding constant_form no_terms
one n v l = coefficient-form_of n (point (pos 1)) no_terms v l

constant-constant : (n : ℕ) (i : Interval) → (constant_form n i).constant ≡ i
unfolding constant_form
constant-constant n i = constant-form_of n i no_terms

negated-one : negated (point (negsuc 0)) ≡ point (pos 1)
unfolding negated
negated-one = refl

negated-nothing : negated nothing ≡ nothing
unfolding negated
negated-nothing = refl

pub plus_one : (ranges : List Interval) (f : Form) → difference_form ranges f (constant_form (length ranges) (point (negsuc 0))) ≡ sum_form ranges f (constant_form (length ranges) (point (pos 1)))
unfolding difference_form difference_term difference_of sum_form sum_term
plus_one ranges f =
    let n = length ranges in
    let k = constant_form n (point (negsuc 0)) in
    let j = constant_form n (point (pos 1)) in
    ap (settled ranges) (same_form n (difference_of f.constant k.constant) (sum_of f.constant j.constant) (difference_term f k) (sum_term f j)
    (ap (λ (i : Interval). sum_of f.constant i) (ap negated (constant-constant n (point (negsuc 0))) ∙ (negated-one ∙ sym (constant-constant n (point (pos 1))))))
    (λ v l. ap (λ (i : Interval). sum_of (coefficient f v) i) (ap negated (minus_one n v l) ∙ (negated-nothing ∙ sym (one n v l)))))

-- ---- matrices

pub at_most-is : (n : ℕ) (a b : Expression) (m : Matrix) (ranges : List Interval) (f : Form) (r : Option Matrix) → ranges ≡ ranges_of n m
    → f ≡ difference_form ranges (linear_form ranges a) (linear_form ranges b) → r ≡ option_and_then tight (bounded ranges f m) → r ≡ restrict_at_most n a b m
unfolding restricted difference_in
at_most-is n a b m ranges f r q h e =
    e ∙ (ap (λ (g : Form). option_and_then tight (bounded ranges g m)) h
    ∙ ap (λ (rs : List Interval). option_and_then tight (bounded rs (difference_form rs (linear_form rs a) (linear_form rs b)) m)) q)

pub below-is : (n : ℕ) (a b : Expression) (m : Matrix) (ranges : List Interval) (f g k : Form) (r : Option Matrix) → ranges ≡ ranges_of n m
    → f ≡ difference_form ranges (linear_form ranges a) (linear_form ranges b) → k ≡ constant_form (length ranges) (point (negsuc 0)) → g ≡ difference_form ranges f k
    → r ≡ option_and_then tight (bounded ranges g m) → r ≡ restrict_below n a b m
unfolding restricted difference_and_one difference_in
below-is n a b m ranges f g k r q h c d e =
    let s : g ≡ sum_form ranges f (constant_form (length ranges) (point (pos 1))) = d ∙ (ap (difference_form ranges f) c ∙ plus_one ranges f) in
    let t : g ≡ sum_form ranges (difference_form ranges (linear_form ranges a) (linear_form ranges b)) (constant_form (length ranges) (point (pos 1))) =
    s ∙ ap (λ (x : Form). sum_form ranges x (constant_form (length ranges) (point (pos 1)))) h in
    e ∙ (ap (λ (x : Form). option_and_then tight (bounded ranges x m)) t
    ∙ (ap (λ (rs : List Interval). option_and_then tight (bounded rs (sum_form rs (difference_form rs (linear_form rs a) (linear_form rs b)) (constant_form (length rs) (point (pos 1)))) m)) q
    ∙ ap (λ i. option_and_then tight (bounded (ranges_of n m) (sum_form (ranges_of n m) (difference_form (ranges_of n m) (linear_form (ranges_of n m) a) (linear_form (ranges_of n m) b)) (constant_form i (point (pos 1)))) m)) (length-ranges_of n m)))

-- ---- values

pub dims-at_most : (a b : Expression) (v w : Octagon) → w ≡ at_most_value a b v → w.dims ≡ v.dims
unfolding at_most_value
dims-at_most a b v w e = ap (λ (t : Octagon). t.dims) e

pub dims-below : (a b c d : Expression) (v x y : Octagon) → x ≡ below_value a b v → y ≡ below_value c d v → x.dims ≡ y.dims
unfolding below_value
dims-below a b c d v x y e f = ap (λ (t : Octagon). t.dims) e ∙ sym (ap (λ (t : Octagon). t.dims) f)

pub over-dims : (n k : ℕ) (e : Expression) → n ≡ k → IsOver k e → IsOver n e
over-dims n k e p h = subst (λ i. IsOver i e) (sym p) h

pub equal-is : (a b : Expression) (v w x : Octagon) → w ≡ at_most_value a b v → x ≡ at_most_value b a w → x ≡ equal_value a b v
unfolding equal_value
equal-is a b v w x e f = f ∙ ap (at_most_value b a) e

pub different-is : (a b : Expression) (v x y z : Octagon) → x ≡ below_value a b v → y ≡ below_value b a v → z ≡ join_value x y → z ≡ different_value a b v
unfolding different_value
different-is a b v x y z e f h = h ∙ (ap (λ (t : Octagon). join_value t y) e ∙ ap (join_value (below_value a b v)) f)

-- ---- the parts of a condition

pub condition_fits : (c : Parts) → IsCore c → (k : ℕ) (x : CoreCond) → k < length c.conds → x ≡ get_or c.conds k x → CondFits c k x
condition_fits c w k x l h = subst (CondFits c k) (sym h) (w.conds k x l)

pub condition_over : (n : ℕ) (x y : Condition) → x ≡ y → IsConditionOver n y → IsConditionOver n x
condition_over n x y e h = subst (IsConditionOver n) (sym e) h

pub dims-test : (c : Condition) (w : Bool) (v r : Octagon) → r ≡ test_value c w v → r.dims ≡ v.dims
dims-test c w v r e = ap (λ (t : Octagon). t.dims) e ∙ dims-test_value c w v

pub over-tested : (c d : Condition) (w : Bool) (v r : Octagon) → r ≡ test_value c w v → IsConditionOver v.dims d → IsConditionOver r.dims d
over-tested c d w v r e h = subst (λ n. IsConditionOver n d) (sym (dims-test c w v r e)) h

pub dims-tested : (c d : Condition) (w b : Bool) (v r s : Octagon) → r ≡ test_value c w v → s ≡ test_value d b v → r.dims ≡ s.dims
dims-tested c d w b v r s e f = dims-test c w v r e ∙ sym (dims-test d b v s f)

pub constant-tested : (value w : Bool) (c : Condition) (v r : Octagon) → Constant value ≡ c → r ≡ constant_value value w v → r ≡ test_value c w v
unfolding test_value
constant-tested value w c v r e h = h ∙ ap (λ (x : Condition). test_value x w v) e

pub random-tested : (w : Bool) (c : Condition) (v r : Octagon) → Random ≡ c → r ≡ v → r ≡ test_value c w v
unfolding test_value
random-tested w c v r e h = h ∙ ap (λ (x : Condition). test_value x w v) e

not-wanted : (c : Condition) (w : Bool) (v : Octagon) → test_value c (not w) v ≡ test_value (Not c) w v
unfolding test_value
not-wanted c true v = refl
not-wanted c false v = refl

pub not-tested : (w : Bool) (c e : Condition) (v r : Octagon) → Not c ≡ e → r ≡ test_value c (not w) v → r ≡ test_value e w v
not-tested w c e v r p h = h ∙ (not-wanted c w v ∙ ap (λ (x : Condition). test_value x w v) p)

pub compare-tested : (k : Cmp) (w : Bool) (a b : Expression) (c : Condition) (v r : Octagon) → Compare k a b ≡ c → r ≡ compare_value k w a b v → r ≡ test_value c w v
unfolding test_value
compare-tested k w a b c v r e h = h ∙ ap (λ (x : Condition). test_value x w v) e

-- one condition and then the other
pub and-true : (w : Bool) (c d e : Condition) (v r s : Octagon) → And c d ≡ e → w ≡ true → r ≡ test_value c true v → s ≡ test_value d true r → s ≡ test_value e w v
unfolding test_value
and-true w c d e v r s p b h k =
    k ∙ (ap (test_value d true) h ∙ (ap (λ (x : Condition). test_value x true v) p ∙ sym (ap (λ (x : Bool). test_value e x v) b)))

pub or-false : (w : Bool) (c d e : Condition) (v r s : Octagon) → Or c d ≡ e → w ≡ false → r ≡ test_value c false v → s ≡ test_value d false r → s ≡ test_value e w v
unfolding test_value
or-false w c d e v r s p b h k =
    k ∙ (ap (test_value d false) h ∙ (ap (λ (x : Condition). test_value x false v) p ∙ sym (ap (λ (x : Bool). test_value e x v) b)))

-- either of two conditions
pub and-false : (w : Bool) (c d e : Condition) (v r s t : Octagon) → And c d ≡ e → w ≡ false → r ≡ test_value c false v → s ≡ test_value d false v → t ≡ join_value r s → t ≡ test_value e w v
unfolding test_value
and-false w c d e v r s t p b h k j =
    j ∙ (ap (λ (x : Octagon). join_value x s) h ∙ (ap (join_value (test_value c false v)) k
    ∙ (ap (λ (x : Condition). test_value x false v) p ∙ sym (ap (λ (x : Bool). test_value e x v) b))))

pub or-true : (w : Bool) (c d e : Condition) (v r s t : Octagon) → Or c d ≡ e → w ≡ true → r ≡ test_value c true v → s ≡ test_value d true v → t ≡ join_value r s → t ≡ test_value e w v
unfolding test_value
or-true w c d e v r s t p b h k j =
    j ∙ (ap (λ (x : Octagon). join_value x s) h ∙ (ap (join_value (test_value c true v)) k
    ∙ (ap (λ (x : Condition). test_value x true v) p ∙ sym (ap (λ (x : Bool). test_value e x v) b))))

pub found : (c : Parts) → NumbersStandForNodes → IsCore c → (k : ℕ) (r x : CoreCond) → k < length c.conds → r ≡ get_or c.conds k r → r ≡ x → cond_over (exprs_in c) (conds_in c) x ≡ cond_at (conds_in c) k
found c law w k r x l h e = ap (cond_over (exprs_in c) (conds_in c)) (sym e) ∙ condition_node c law w k r l h

-- ---- comparisons

-- a comparison that comes out as wanted is the one that is asked for, which holds
pub compare-asked : (r : Cmp) (w : Bool) (a b : Expression) (v : Octagon) → compare_value (asked r w) true a b v ≡ compare_value r w a b v
compare-asked r true a b v = refl
compare-asked cmp.Eq false a b v = refl
compare-asked cmp.Ne false a b v = refl
compare-asked cmp.Lt false a b v = refl
compare-asked cmp.Le false a b v = refl
compare-asked cmp.Gt false a b v = refl
compare-asked cmp.Ge false a b v = refl
