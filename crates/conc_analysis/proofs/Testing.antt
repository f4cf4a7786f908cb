-- Tests by the forms of differences, and by the parts of a condition.
use Rattle.std.proofs.Common.{◌≡◌, ℕ, List, length, Bool, true, false, not, Option, Some, None, pos, negsuc, slice_set, refl, sym, ap, subst, ◌∙◌}
use Rattle.std.specs.Option.{option_and_then}
use Rattle.spl_core.specs.declared.parts.Cmp.{Cmp}
use Rattle.spl_core.specs.declared.parts.Cmp.TheVariants as cmp
use Rattle.spl_core.specs.Expression.{Expression, IsOver}
use Rattle.spl_core.specs.Condition.{Condition, Constant, Random, Not, And, Or, Compare, IsConditionOver, asked}
use Rattle.spl_core.specs.declared.parts.Action.{Action}
use Rattle.spl_core.specs.declared.parts.Action.TheVariants.{Assign, Havoc}
use Rattle.spl_core.specs.Parts.{Parts}
use Rattle.spl_core.specs.Graph.{expr_at, exprs_in, move_of}
use Rattle.interval_form.specs.declared.interval.Interval.{Interval}
use Rattle.interval_form.specs.Interval.{point, unbounded}
use Rattle.interval_form.specs.Form.{Form}
use Rattle.interval_form.specs.Linear.{constant_form, linear_form, difference_form, sum_form}
use Rattle.transfer_def.proofs.Conditions.{plus_one}
use Rattle.conc_analysis.specs.Environment.{Environment, join_environment}
use Rattle.conc_analysis.specs.EnvironmentMove.{restricted, difference_in, difference_and_one, at_most_in, below_in, equal_in, different_in, compare_in, constant_in, test_in, range_of_value, assigned_in, forgotten_in, move_in}
use Rattle.conc_analysis.specs.Fits.{IsExpressionIn, IsConditionIn}
use Rattle.conc_analysis.proofs.Moving.{IsOf, of-at_most, of-test_in}

-- ---- expressions

pub expression-in : (v : Environment) (e : Expression) (ranges : List Interval) → v ≡ Some ranges → IsExpressionIn v e → IsOver (length ranges) e
expression-in v e ranges h p = subst (λ (x : Environment). IsExpressionIn x e) h p

pub condition-in : (v : Environment) (c d : Condition) → c ≡ d → IsConditionIn v d → IsConditionIn v c
condition-in v c d h p = subst (IsConditionIn v) (sym h) p

kept : (n : ℕ) (v : Environment) (e : Expression) → IsOf n v → IsOver n e → IsExpressionIn v e
kept n None e d o = tt
kept n (Some ranges) e d o = subst (λ (k : ℕ). IsOver k e) (sym d) o

pub expression-after : (a b e : Expression) (v r : Environment) → r ≡ at_most_in a b v → IsExpressionIn v e → IsExpressionIn r e
unfolding at_most_in
expression-after a b e None r h p = subst (λ (x : Environment). IsExpressionIn x e) (sym h) tt
expression-after a b e (Some ranges) r h p = subst (λ (x : Environment). IsExpressionIn x e) (sym h) (kept (length ranges) (at_most_in a b (Some ranges)) e (of-at_most a b (length ranges) (Some ranges) refl) p)

kept_condition : (n : ℕ) (v : Environment) (c : Condition) → IsOf n v → IsConditionOver n c → IsConditionIn v c
kept_condition n None c d o = tt
kept_condition n (Some ranges) c d o = subst (λ (k : ℕ). IsConditionOver k c) (sym d) o

pub nothing-left : (c : Condition) (wanted : Bool) → test_in c wanted None ≡ None
unfolding test_in at_most_in below_in equal_in different_in
nothing-left (Constant true) true = refl
nothing-left (Constant true) false = refl
nothing-left (Constant false) true = refl
nothing-left (Constant false) false = refl
nothing-left Random wanted = refl
nothing-left (Not c) true = nothing-left c false
nothing-left (Not c) false = nothing-left c true
nothing-left (And c d) true = ap (test_in d true) (nothing-left c true) ∙ nothing-left d true
nothing-left (And c d) false = ap (λ (x : Environment). join_environment x (test_in d false None)) (nothing-left c false) ∙ nothing-left d false
nothing-left (Or c d) true = ap (λ (x : Environment). join_environment x (test_in d true None)) (nothing-left c true) ∙ nothing-left d true
nothing-left (Or c d) false = ap (test_in d false) (nothing-left c false) ∙ nothing-left d false
nothing-left (Compare cmp.Eq a b) true = refl
nothing-left (Compare cmp.Eq a b) false = refl
nothing-left (Compare cmp.Ne a b) true = refl
nothing-left (Compare cmp.Ne a b) false = refl
nothing-left (Compare cmp.Lt a b) true = refl
nothing-left (Compare cmp.Lt a b) false = refl
nothing-left (Compare cmp.Le a b) true = refl
nothing-left (Compare cmp.Le a b) false = refl
nothing-left (Compare cmp.Gt a b) true = refl
nothing-left (Compare cmp.Gt a b) false = refl
nothing-left (Compare cmp.Ge a b) true = refl
nothing-left (Compare cmp.Ge a b) false = refl

pub condition-after : (c d : Condition) (wanted : Bool) (v r : Environment) → r ≡ test_in c wanted v → IsConditionIn v d → IsConditionIn r d
condition-after c d wanted None r h p = subst (λ (x : Environment). IsConditionIn x d) (sym (h ∙ nothing-left c wanted)) tt
condition-after c d wanted (Some ranges) r h p =
    subst (λ (x : Environment). IsConditionIn x d) (sym h) (kept_condition (length ranges) (test_in c wanted (Some ranges)) d (of-test_in c wanted (length ranges) (Some ranges) refl) p)

pub condition-parts : (v : Environment) (c d : Condition) → IsConditionIn v (And c d) → IsConditionIn v c × IsConditionIn v d
condition-parts None c d p = (tt, tt)
condition-parts (Some ranges) c d p = p

pub condition-either : (v : Environment) (c d : Condition) → IsConditionIn v (Or c d) → IsConditionIn v c × IsConditionIn v d
condition-either None c d p = (tt, tt)
condition-either (Some ranges) c d p = p

pub condition-of-not : (v : Environment) (c : Condition) → IsConditionIn v (Not c) → IsConditionIn v c
condition-of-not None c p = tt
condition-of-not (Some ranges) c p = p

pub condition-compared : (v : Environment) (r : Cmp) (a b : Expression) → IsConditionIn v (Compare r a b) → IsExpressionIn v a × IsExpressionIn v b
condition-compared None r a b p = (tt, tt)
condition-compared (Some ranges) r a b p = p

-- ---- comparisons

pub at_most-none : (a b : Expression) (v : Environment) → v ≡ None → None ≡ at_most_in a b v
unfolding at_most_in
at_most-none a b v h = sym (ap (at_most_in a b) h)

pub at_most-is : (a b : Expression) (v r : Environment) (ranges : List Interval) (f : Form) → v ≡ Some ranges → f ≡ difference_form ranges (linear_form ranges a) (linear_form ranges b) → r ≡ restricted f ranges → r ≡ at_most_in a b v
unfolding at_most_in difference_in
at_most-is a b v r ranges f h d e = e ∙ (ap (λ (g : Form). restricted g ranges) d ∙ sym (ap (at_most_in a b) h))

pub below-none : (a b : Expression) (v : Environment) → v ≡ None → None ≡ below_in a b v
unfolding below_in
below-none a b v h = sym (ap (below_in a b) h)

pub below-is : (a b : Expression) (v r : Environment) (ranges : List Interval) (f k g : Form) → v ≡ Some ranges → f ≡ difference_form ranges (linear_form ranges a) (linear_form ranges b)
    → k ≡ constant_form (length ranges) (point (negsuc 0)) → g ≡ difference_form ranges f k → r ≡ restricted g ranges → r ≡ below_in a b v
unfolding below_in difference_and_one difference_in
below-is a b v r ranges f k g h d c m e =
    let one : g ≡ difference_and_one ranges a b = m ∙ (ap (difference_form ranges f) c ∙ (plus_one ranges f ∙ ap (with_one ranges) d)) in
    e ∙ (ap (λ (x : Form). restricted x ranges) one ∙ sym (ap (below_in a b) h))
  where
    with_one : List Interval → Form → Form
    with_one ranges x = sum_form ranges x (constant_form (length ranges) (point (pos 1)))

pub equal-is : (a b : Expression) (v first r : Environment) → first ≡ at_most_in a b v → r ≡ at_most_in b a first → r ≡ equal_in a b v
unfolding equal_in
equal-is a b v first r e f = f ∙ ap (at_most_in b a) e

pub different-is : (a b : Expression) (v less more r : Environment) → less ≡ below_in a b v → more ≡ below_in b a v → r ≡ join_environment less more → r ≡ different_in a b v
unfolding different_in
different-is a b v less more r e f h = h ∙ (ap (λ (x : Environment). join_environment x more) e ∙ ap (join_environment (below_in a b v)) f)

compare-asked : (r : Cmp) (w : Bool) (a b : Expression) (v : Environment) → compare_in (asked r w) true a b v ≡ compare_in r w a b v
compare-asked r true a b v = refl
compare-asked cmp.Eq false a b v = refl
compare-asked cmp.Ne false a b v = refl
compare-asked cmp.Lt false a b v = refl
compare-asked cmp.Le false a b v = refl
compare-asked cmp.Gt false a b v = refl
compare-asked cmp.Ge false a b v = refl

-- ---- conditions

pub constant-tested : (value w : Bool) (c : Condition) (v r : Environment) → Constant value ≡ c → r ≡ constant_in value w v → r ≡ test_in c w v
unfolding test_in
constant-tested value w c v r e h = h ∙ ap (λ (x : Condition). test_in x w v) e

pub random-tested : (w : Bool) (c : Condition) (v r : Environment) → Random ≡ c → r ≡ v → r ≡ test_in c w v
unfolding test_in
random-tested w c v r e h = h ∙ ap (λ (x : Condition). test_in x w v) e

not-wanted : (c : Condition) (w : Bool) (v : Environment) → test_in c (not w) v ≡ test_in (Not c) w v
unfolding test_in
not-wanted c true v = refl
not-wanted c false v = refl

pub not-tested : (w : Bool) (c e : Condition) (v r : Environment) → Not c ≡ e → r ≡ test_in c (not w) v → r ≡ test_in e w v
not-tested w c e v r p h = h ∙ (not-wanted c w v ∙ ap (λ (x : Condition). test_in x w v) p)

pub compare-tested : (k j : Cmp) (w : Bool) (a b : Expression) (c : Condition) (v r : Environment) → Compare k a b ≡ c → j ≡ asked k w → r ≡ compare_in j true a b v → r ≡ test_in c w v
unfolding test_in
compare-tested k j w a b c v r e q h =
    h ∙ (ap (λ (i : Cmp). compare_in i true a b v) q ∙ (compare-asked k w a b v ∙ ap (λ (x : Condition). test_in x w v) e))

pub and-true : (w : Bool) (c d e : Condition) (v r s : Environment) → And c d ≡ e → w ≡ true → r ≡ test_in c true v → s ≡ test_in d true r → s ≡ test_in e w v
unfolding test_in
and-true w c d e v r s p b h k =
    k ∙ (ap (test_in d true) h ∙ (ap (λ (x : Condition). test_in x true v) p ∙ sym (ap (λ (x : Bool). test_in e x v) b)))

pub or-false : (w : Bool) (c d e : Condition) (v r s : Environment) → Or c d ≡ e → w ≡ false → r ≡ test_in c false v → s ≡ test_in d false r → s ≡ test_in e w v
unfolding test_in
or-false w c d e v r s p b h k =
    k ∙ (ap (test_in d false) h ∙ (ap (λ (x : Condition). test_in x false v) p ∙ sym (ap (λ (x : Bool). test_in e x v) b)))

pub and-false : (w : Bool) (c d e : Condition) (v r s t : Environment) → And c d ≡ e → w ≡ false → r ≡ test_in c false v → s ≡ test_in d false v → t ≡ join_environment r s → t ≡ test_in e w v
unfolding test_in
and-false w c d e v r s t p b h k j =
    j ∙ (ap (λ (x : Environment). join_environment x s) h ∙ (ap (join_environment (test_in c false v)) k
    ∙ (ap (λ (x : Condition). test_in x false v) p ∙ sym (ap (λ (x : Bool). test_in e x v) b))))

pub or-true : (w : Bool) (c d e : Condition) (v r s t : Environment) → Or c d ≡ e → w ≡ true → r ≡ test_in c true v → s ≡ test_in d true v → t ≡ join_environment r s → t ≡ test_in e w v
unfolding test_in
or-true w c d e v r s t p b h k j =
    j ∙ (ap (λ (x : Environment). join_environment x s) h ∙ (ap (join_environment (test_in c true v)) k
    ∙ (ap (λ (x : Condition). test_in x true v) p ∙ sym (ap (λ (x : Bool). test_in e x v) b))))

-- ---- moves

pub assigned-is : (x k : ℕ) (e : Expression) (action : Action) (c : Parts) (v : Environment) (ranges after : List Interval) (i : Interval) → Assign x k ≡ action → e ≡ expr_at (exprs_in c) k → v ≡ Some ranges
    → i ≡ range_of_value ranges e → after ≡ slice_set ranges x i → Some after ≡ move_in (move_of c action) v
unfolding assigned_in
assigned-is x k e action c v ranges after i a t h p q =
    ap (λ (z : List Interval). Some z) (q ∙ ap (slice_set ranges x) (p ∙ ap (range_of_value ranges) t))
    ∙ (ap (λ (z : Environment). move_in (move_of c (Assign x k)) z) (sym h) ∙ ap (λ (z : Action). move_in (move_of c z) v) a)

pub havocked-is : (x : ℕ) (action : Action) (c : Parts) (v : Environment) (ranges after : List Interval) → Havoc x ≡ action → v ≡ Some ranges → after ≡ slice_set ranges x unbounded → Some after ≡ move_in (move_of c action) v
unfolding forgotten_in
havocked-is x action c v ranges after a h q =
    ap (λ (z : List Interval). Some z) q
    ∙ (ap (λ (z : Environment). move_in (move_of c (Havoc x)) z) (sym h) ∙ ap (λ (z : Action). move_in (move_of c z) v) a)
