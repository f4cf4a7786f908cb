-- The linear form of an expression of a core, by its node.
use Rattle.std.proofs.Common.{◌≡◌, ℕ, ◌^◌, ◌<◌, ◌≤◌, length, to_z, arith, get_or, List, pos, sym, ap, subst, ◌∙◌}
use Rattle.std.specs.Int.{w64}
use Rattle.std.proofs.lemmas.Int.{ints}
use Rattle.spl_core.specs.declared.parts.CoreExpr.{CoreExpr}
use Rattle.spl_core.specs.Parts.{Parts}
use Rattle.spl_core.specs.Facts.{ExprFits, IsCore}
use Rattle.spl_core.specs.Laws.{NumbersStandForNodes}
use Rattle.spl_core.specs.Expression.{Expression, Number, Variable, Neg, Add, Sub, Mul, Div, Rem}
use Rattle.spl_core.specs.Graph.{expr_at, expr_over, exprs_in}
use Rattle.interval_form.specs.Interval.{Interval, point}
use Rattle.interval_form.specs.Form.{Form}
use Rattle.interval_form.specs.Linear.{constant_form, variable_form, negated_form, sum_form, difference_form, product_form, quotient_form, remainder_form, linear_form}

pub node : (c : Parts) → NumbersStandForNodes → IsCore c → (e : ℕ) (x : CoreExpr) → e < length c.exprs → x ≡ get_or c.exprs e x → expr_over (exprs_in c) x ≡ expr_at (exprs_in c) e
node c law w e x l h = ap (expr_over (exprs_in c)) h ∙ sym ((law c w).expr e x l)

pub parts_below : (c : Parts) → IsCore c → (e : ℕ) (x : CoreExpr) → e < length c.exprs → x ≡ get_or c.exprs e x → ExprFits e x
parts_below c w e x l h = subst (ExprFits e) (sym h) (w.exprs e x l)

-- a literal as a word
pub number-word : (n : ℕ) → n ≤ 2 ^ 61 → to_z w64 n ≡ pos n
number-word n h = omega (arith, ints)

pub linear-number : (ranges : List Interval) (n : ℕ) (e : Expression) → Number n ≡ e → constant_form (length ranges) (point (pos n)) ≡ linear_form ranges e
unfolding linear_form
linear-number ranges n e h = ap (linear_form ranges) h

pub linear-variable : (ranges : List Interval) (v : ℕ) (e : Expression) → Variable v ≡ e → variable_form (length ranges) v ≡ linear_form ranges e
unfolding linear_form
linear-variable ranges v e h = ap (linear_form ranges) h

pub linear-neg : (ranges : List Interval) (f : Form) (a e : Expression) → f ≡ linear_form ranges a → Neg a ≡ e → negated_form ranges f ≡ linear_form ranges e
unfolding linear_form
linear-neg ranges f a e p h = ap (negated_form ranges) p ∙ ap (linear_form ranges) h

pub linear-add : (ranges : List Interval) (f g : Form) (a b e : Expression) → f ≡ linear_form ranges a → g ≡ linear_form ranges b → Add a b ≡ e → sum_form ranges f g ≡ linear_form ranges e
unfolding linear_form
linear-add ranges f g a b e p q h = rw (p, q) (ap (linear_form ranges) h)

pub linear-sub : (ranges : List Interval) (f g : Form) (a b e : Expression) → f ≡ linear_form ranges a → g ≡ linear_form ranges b → Sub a b ≡ e → difference_form ranges f g ≡ linear_form ranges e
unfolding linear_form
linear-sub ranges f g a b e p q h = rw (p, q) (ap (linear_form ranges) h)

pub linear-mul : (ranges : List Interval) (f g : Form) (a b e : Expression) → f ≡ linear_form ranges a → g ≡ linear_form ranges b → Mul a b ≡ e → product_form ranges f g ≡ linear_form ranges e
unfolding linear_form
linear-mul ranges f g a b e p q h = rw (p, q) (ap (linear_form ranges) h)

pub linear-div : (ranges : List Interval) (f g : Form) (a b e : Expression) → f ≡ linear_form ranges a → g ≡ linear_form ranges b → Div a b ≡ e → quotient_form ranges f g ≡ linear_form ranges e
unfolding linear_form
linear-div ranges f g a b e p q h = rw (p, q) (ap (linear_form ranges) h)

pub linear-rem : (ranges : List Interval) (f g : Form) (a b e : Expression) → f ≡ linear_form ranges a → g ≡ linear_form ranges b → Rem a b ≡ e → remainder_form ranges f g ≡ linear_form ranges e
unfolding linear_form
linear-rem ranges f g a b e p q h = rw (p, q) (ap (linear_form ranges) h)
