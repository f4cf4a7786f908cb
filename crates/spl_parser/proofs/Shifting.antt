-- Operators that wait, closed before a new one.
use Rattle.std.proofs.Common.{◌≡◌, ℕ, ◌+◌, List, [], length, refl, sym, ap, ◌∙◌, subst, arith, Option, Some, None}
use Rattle.spl_tree.specs.declared.parts.ExprId.{ExprId}
use Rattle.spl_tree.specs.declared.parts.BinOp.{BinOp}
use Rattle.spl_tree.specs.Lists.{Lists}
use Rattle.spl_tree.specs.Facts.{Each, IsPlace}
use Rattle.spl_tree.specs.Program.{ExprTree}
use Rattle.spl_tree.specs.Meaning.{expr_at}
use Rattle.spl_parser.specs.declared.state.Side.{Side}
use Rattle.spl_parser.specs.declared.state.Left.{Left}
use Rattle.spl_parser.specs.declared.state.Pending.{Pending}
use Rattle.spl_parser.specs.Growth.{Grown, grown}
use Rattle.spl_parser.specs.Machine as m
use Rattle.spl_parser.specs.Trees.{trees}
use Rattle.spl_parser.specs.View.{side_of, left_of, pending_of, SideIn, LeftIn, PendingIn, one_if, waiting, Folds, Shifts, product_tree, sum_tree, conjunct_tree, whole_tree, waiting_within, joined_tree, sided_tree}
use Rattle.spl_parser.specs.declared.state.Sign.TheVariants as sign
use Rattle.spl_parser.specs.Machine.{step, step_have}
use Rattle.spl_parser.proofs.Folds.{minuses_any, nots_any}
use Rattle.spl_parser.proofs.WantArms.{same_pending}
use Rattle.spl_parser.proofs.Stay.{side_keeps, side_in, left_keeps, left_in}

-- the levels over trees are those of the machine
pub product_is : (source : List ℕ) (r : Grown) (q : Option Left) (ms : List ℕ) (x : ExprTree) → product_tree (left_of r q) ms x ≡ m.with_product (trees source) (left_of r q) (m.under_minuses (trees source) ms x)
product_is source r None ms x = sym (minuses_any source ms x)
product_is source r (Some l) ms x = ap (λ y. joined_tree (left_of r (Some l)) y) (sym (minuses_any source ms x))

pub sum_is : (source : List ℕ) (r : Grown) (s q : Option Left) (ms : List ℕ) (x : ExprTree) → sum_tree (left_of r s) (left_of r q) ms x ≡ m.with_sum (trees source) (left_of r s) (m.with_product (trees source) (left_of r q) (m.under_minuses (trees source) ms x))
sum_is source r None q ms x = product_is source r q ms x
sum_is source r (Some l) q ms x = ap (λ y. joined_tree (left_of r (Some l)) y) (product_is source r q ms x)

cmp_is : (source : List ℕ) (r : Grown) (c : Option Left) (x : ExprTree) → joined_tree (left_of r c) x ≡ m.with_cmp (trees source) (left_of r c) x
cmp_is source r None x = refl
cmp_is source r (Some l) x = refl

both_is : (source : List ℕ) (r : Grown) (s : Option Side) (x : ExprTree) → sided_tree BinOp.And (side_of r s) x ≡ m.with_both (trees source) (side_of r s) x
both_is source r None x = refl
both_is source r (Some l) x = refl

either_is : (source : List ℕ) (r : Grown) (s : Option Side) (x : ExprTree) → sided_tree BinOp.Or (side_of r s) x ≡ m.with_either (trees source) (side_of r s) x
either_is source r None x = refl
either_is source r (Some l) x = refl

pub conjunct_is : (source : List ℕ) (r : Grown) (p : Pending) (x : ExprTree) → conjunct_tree r p x ≡ m.closed_1 (trees source) (pending_of source r p) x
conjunct_is source r p x =
    ap (λ y. sided_tree BinOp.And (side_of r p.both) (m.under_nots (trees []) p.nots.items (joined_tree (left_of r p.comparison) y))) (sum_is source r p.sum p.product p.minuses.items x)
    ∙ (ap (λ y. sided_tree BinOp.And (side_of r p.both) (m.under_nots (trees []) p.nots.items y)) (cmp_is source r p.comparison (m.closed_4 (trees source) (pending_of source r p) x))
    ∙ (ap (λ y. sided_tree BinOp.And (side_of r p.both) y) (sym (nots_any source p.nots.items (m.with_cmp (trees source) (left_of r p.comparison) (m.closed_4 (trees source) (pending_of source r p) x))))
    ∙ both_is source r p.both (m.under_nots (trees source) p.nots.items (m.with_cmp (trees source) (left_of r p.comparison) (m.closed_4 (trees source) (pending_of source r p) x)))))

pub whole_is : (source : List ℕ) (r : Grown) (p : Pending) (x : ExprTree) → whole_tree r p x ≡ m.closed_0 (trees source) (pending_of source r p) x
whole_is source r p x = ap (λ y. sided_tree BinOp.Or (side_of r p.either) y) (conjunct_is source r p x) ∙ either_is source r p.either (m.closed_1 (trees source) (pending_of source r p) x)

none_placed : (xs : List ℕ) → xs ≡ [] → Each (λ k at. IsPlace at) xs
none_placed xs e = λ k d lt. absurd (omega (arith, ap length e))

pub shift_product : (t t' : Lists) (p q : Pending) (a left : ExprId) (op : BinOp) (at : ℕ) → IsPlace at → PendingIn (grown t) p → q.either ≡ p.either → q.both ≡ p.both → q.nots.items ≡ p.nots.items → q.comparison ≡ p.comparison → q.sum ≡ p.sum → q.product ≡ Some (record { operand = left; operator = op; place = at }) → q.minuses.items ≡ [] → Folds t t' (one_if p.product + length p.minuses.items) left (product_tree (left_of (grown t) p.product) p.minuses.items (expr_at (grown t).exprs a)) → Shifts t t' p a (sign.Product op) at q
shift_product t t' p q a left op at pl h e1 e2 e3 e4 e5 e6 e7 f = record {
  whole = f.whole;
  only = f.only;
  grows = f.grows;
  count = omega (arith, f.count, ap (λ x. one_if x) e1, ap (λ x. one_if x) e2, ap length e3, ap (λ x. one_if x) e4, ap (λ x. one_if x) e5, ap (λ x. one_if x) e6, ap length e7);
  there = record { either = subst (λ (x : Option Side). SideIn (grown t') x) (sym e1) (side_in (grown t) (grown t') p.either f.grows h.either); both = subst (λ (x : Option Side). SideIn (grown t') x) (sym e2) (side_in (grown t) (grown t') p.both f.grows h.both); nots = subst (λ (l : List ℕ). Each (λ k y. IsPlace y) l) (sym e3) h.nots; comparison = subst (λ (x : Option Left). LeftIn (grown t') x) (sym e4) (left_in (grown t) (grown t') p.comparison f.grows h.comparison); sum = subst (λ (x : Option Left). LeftIn (grown t') x) (sym e5) (left_in (grown t) (grown t') p.sum f.grows h.sum); product = subst (λ (x : Option Left). LeftIn (grown t') x) (sym e6) (f.there, pl); minuses = none_placed q.minuses.items e7 };
  goes = λ source. same_pending source (grown t') q (side_of (grown t) p.either) (side_of (grown t) p.both) p.nots.items (left_of (grown t) p.comparison) (left_of (grown t) p.sum) (Some (m.closed_5 (trees source) (pending_of source (grown t) p) (expr_at (grown t).exprs a), (op, at))) []
      (ap (λ x. side_of (grown t') x) e1 ∙ side_keeps (grown t) (grown t') p.either f.grows h.either) (ap (λ x. side_of (grown t') x) e2 ∙ side_keeps (grown t) (grown t') p.both f.grows h.both) e3 (ap (λ x. left_of (grown t') x) e4 ∙ left_keeps (grown t) (grown t') p.comparison f.grows h.comparison) (ap (λ x. left_of (grown t') x) e5 ∙ left_keeps (grown t) (grown t') p.sum f.grows h.sum)
      (ap (λ x. left_of (grown t') x) e6 ∙ ap (λ (y : ExprTree). Some (y, (op, at))) (f.is ∙ product_is source (grown t) p.product p.minuses.items (expr_at (grown t).exprs a))) e7;
}

pub shift_sum : (t t' : Lists) (p q : Pending) (a left : ExprId) (op : BinOp) (at : ℕ) → IsPlace at → PendingIn (grown t) p → q.either ≡ p.either → q.both ≡ p.both → q.nots.items ≡ p.nots.items → q.comparison ≡ p.comparison → q.sum ≡ Some (record { operand = left; operator = op; place = at }) → q.product ≡ None → q.minuses.items ≡ [] → Folds t t' (one_if p.sum + one_if p.product + length p.minuses.items) left (sum_tree (left_of (grown t) p.sum) (left_of (grown t) p.product) p.minuses.items (expr_at (grown t).exprs a)) → Shifts t t' p a (sign.Sum op) at q
shift_sum t t' p q a left op at pl h e1 e2 e3 e4 e5 e6 e7 f = record {
  whole = f.whole;
  only = f.only;
  grows = f.grows;
  count = omega (arith, f.count, ap (λ x. one_if x) e1, ap (λ x. one_if x) e2, ap length e3, ap (λ x. one_if x) e4, ap (λ x. one_if x) e5, ap (λ x. one_if x) e6, ap length e7);
  there = record { either = subst (λ (x : Option Side). SideIn (grown t') x) (sym e1) (side_in (grown t) (grown t') p.either f.grows h.either); both = subst (λ (x : Option Side). SideIn (grown t') x) (sym e2) (side_in (grown t) (grown t') p.both f.grows h.both); nots = subst (λ (l : List ℕ). Each (λ k y. IsPlace y) l) (sym e3) h.nots; comparison = subst (λ (x : Option Left). LeftIn (grown t') x) (sym e4) (left_in (grown t) (grown t') p.comparison f.grows h.comparison); sum = subst (λ (x : Option Left). LeftIn (grown t') x) (sym e5) (f.there, pl); product = subst (λ (x : Option Left). LeftIn (grown t') x) (sym e6) tt; minuses = none_placed q.minuses.items e7 };
  goes = λ source. same_pending source (grown t') q (side_of (grown t) p.either) (side_of (grown t) p.both) p.nots.items (left_of (grown t) p.comparison) (Some (m.closed_4 (trees source) (pending_of source (grown t) p) (expr_at (grown t).exprs a), (op, at))) None []
      (ap (λ x. side_of (grown t') x) e1 ∙ side_keeps (grown t) (grown t') p.either f.grows h.either) (ap (λ x. side_of (grown t') x) e2 ∙ side_keeps (grown t) (grown t') p.both f.grows h.both) e3 (ap (λ x. left_of (grown t') x) e4 ∙ left_keeps (grown t) (grown t') p.comparison f.grows h.comparison)
      (ap (λ x. left_of (grown t') x) e5 ∙ ap (λ (y : ExprTree). Some (y, (op, at))) (f.is ∙ sum_is source (grown t) p.sum p.product p.minuses.items (expr_at (grown t).exprs a))) (ap (λ x. left_of (grown t') x) e6) e7;
}

pub shift_comparison : (t t' : Lists) (p q : Pending) (a left : ExprId) (op : BinOp) (at : ℕ) → IsPlace at → PendingIn (grown t) p → p.comparison ≡ None → q.either ≡ p.either → q.both ≡ p.both → q.nots.items ≡ p.nots.items → q.comparison ≡ Some (record { operand = left; operator = op; place = at }) → q.sum ≡ None → q.product ≡ None → q.minuses.items ≡ [] → Folds t t' (one_if p.sum + one_if p.product + length p.minuses.items) left (sum_tree (left_of (grown t) p.sum) (left_of (grown t) p.product) p.minuses.items (expr_at (grown t).exprs a)) → Shifts t t' p a (sign.Comparison op) at q
shift_comparison t t' p q a left op at pl h e0 e1 e2 e3 e4 e5 e6 e7 f = record {
  whole = f.whole;
  only = f.only;
  grows = f.grows;
  count = omega (arith, f.count, ap (λ x. one_if x) e0, ap (λ x. one_if x) e1, ap (λ x. one_if x) e2, ap length e3, ap (λ x. one_if x) e4, ap (λ x. one_if x) e5, ap (λ x. one_if x) e6, ap length e7);
  there = record { either = subst (λ (x : Option Side). SideIn (grown t') x) (sym e1) (side_in (grown t) (grown t') p.either f.grows h.either); both = subst (λ (x : Option Side). SideIn (grown t') x) (sym e2) (side_in (grown t) (grown t') p.both f.grows h.both); nots = subst (λ (l : List ℕ). Each (λ k y. IsPlace y) l) (sym e3) h.nots; comparison = subst (λ (x : Option Left). LeftIn (grown t') x) (sym e4) (f.there, pl); sum = subst (λ (x : Option Left). LeftIn (grown t') x) (sym e5) tt; product = subst (λ (x : Option Left). LeftIn (grown t') x) (sym e6) tt; minuses = none_placed q.minuses.items e7 };
  goes = λ source. same_pending source (grown t') q (side_of (grown t) p.either) (side_of (grown t) p.both) p.nots.items (Some (m.closed_4 (trees source) (pending_of source (grown t) p) (expr_at (grown t).exprs a), (op, at))) None None []
      (ap (λ x. side_of (grown t') x) e1 ∙ side_keeps (grown t) (grown t') p.either f.grows h.either) (ap (λ x. side_of (grown t') x) e2 ∙ side_keeps (grown t) (grown t') p.both f.grows h.both) e3
      (ap (λ x. left_of (grown t') x) e4 ∙ ap (λ (y : ExprTree). Some (y, (op, at))) (f.is ∙ sum_is source (grown t) p.sum p.product p.minuses.items (expr_at (grown t).exprs a))) (ap (λ x. left_of (grown t') x) e5) (ap (λ x. left_of (grown t') x) e6) e7;
}

pub shift_and : (t t' : Lists) (p q : Pending) (a left : ExprId) (at : ℕ) → IsPlace at → PendingIn (grown t) p → q.either ≡ p.either → q.both ≡ Some (record { operand = left; place = at }) → q.nots.items ≡ [] → q.comparison ≡ None → q.sum ≡ None → q.product ≡ None → q.minuses.items ≡ [] → Folds t t' (waiting_within p) left (conjunct_tree (grown t) p (expr_at (grown t).exprs a)) → Shifts t t' p a sign.And at q
shift_and t t' p q a left at pl h e1 e2 e3 e4 e5 e6 e7 f = record {
  whole = f.whole;
  only = f.only;
  grows = f.grows;
  count = omega (arith, f.count, ap (λ x. one_if x) e1, ap (λ x. one_if x) e2, ap length e3, ap (λ x. one_if x) e4, ap (λ x. one_if x) e5, ap (λ x. one_if x) e6, ap length e7);
  there = record { either = subst (λ (x : Option Side). SideIn (grown t') x) (sym e1) (side_in (grown t) (grown t') p.either f.grows h.either); both = subst (λ (x : Option Side). SideIn (grown t') x) (sym e2) (f.there, pl); nots = none_placed q.nots.items e3; comparison = subst (λ (x : Option Left). LeftIn (grown t') x) (sym e4) tt; sum = subst (λ (x : Option Left). LeftIn (grown t') x) (sym e5) tt; product = subst (λ (x : Option Left). LeftIn (grown t') x) (sym e6) tt; minuses = none_placed q.minuses.items e7 };
  goes = λ source. same_pending source (grown t') q (side_of (grown t) p.either) (Some (m.closed_1 (trees source) (pending_of source (grown t) p) (expr_at (grown t).exprs a), at)) [] None None None []
      (ap (λ x. side_of (grown t') x) e1 ∙ side_keeps (grown t) (grown t') p.either f.grows h.either) (ap (λ x. side_of (grown t') x) e2 ∙ ap (λ (y : ExprTree). Some (y, at)) (f.is ∙ conjunct_is source (grown t) p (expr_at (grown t).exprs a))) e3 (ap (λ x. left_of (grown t') x) e4) (ap (λ x. left_of (grown t') x) e5) (ap (λ x. left_of (grown t') x) e6) e7;
}

pub shift_or : (t t' : Lists) (p q : Pending) (a left : ExprId) (at : ℕ) → IsPlace at → q.either ≡ Some (record { operand = left; place = at }) → q.both ≡ None → q.nots.items ≡ [] → q.comparison ≡ None → q.sum ≡ None → q.product ≡ None → q.minuses.items ≡ [] → Folds t t' (waiting p) left (whole_tree (grown t) p (expr_at (grown t).exprs a)) → Shifts t t' p a sign.Or at q
shift_or t t' p q a left at pl e1 e2 e3 e4 e5 e6 e7 f = record {
  whole = f.whole;
  only = f.only;
  grows = f.grows;
  count = omega (arith, f.count, ap (λ x. one_if x) e1, ap (λ x. one_if x) e2, ap length e3, ap (λ x. one_if x) e4, ap (λ x. one_if x) e5, ap (λ x. one_if x) e6, ap length e7);
  there = record { either = subst (λ (x : Option Side). SideIn (grown t') x) (sym e1) (f.there, pl); both = subst (λ (x : Option Side). SideIn (grown t') x) (sym e2) tt; nots = none_placed q.nots.items e3; comparison = subst (λ (x : Option Left). LeftIn (grown t') x) (sym e4) tt; sum = subst (λ (x : Option Left). LeftIn (grown t') x) (sym e5) tt; product = subst (λ (x : Option Left). LeftIn (grown t') x) (sym e6) tt; minuses = none_placed q.minuses.items e7 };
  goes = λ source. same_pending source (grown t') q (Some (m.closed_0 (trees source) (pending_of source (grown t) p) (expr_at (grown t).exprs a), at)) None [] None None None []
      (ap (λ x. side_of (grown t') x) e1 ∙ ap (λ (y : ExprTree). Some (y, at)) (f.is ∙ whole_is source (grown t) p (expr_at (grown t).exprs a))) (ap (λ x. side_of (grown t') x) e2) e3 (ap (λ x. left_of (grown t') x) e4) (ap (λ x. left_of (grown t') x) e5) (ap (λ x. left_of (grown t') x) e6) e7;
}
