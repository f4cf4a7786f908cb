use Rattle.std.proofs.Common.{◌^◌, ◌≤◌, length, ap, ◌∙◌}
use Rattle.spl_core.specs.declared.parts.CoreExpr.TheVariants as expr
use Rattle.spl_core.specs.Graph.{expr_at, exprs_in}
use Rattle.interval_form.specs.Interval.{point}
use Rattle.interval_form.specs.Linear.{constant_form}
use Rattle.interval_form.specs.Sparse.{form_in}
use Rattle.interval_form.proofs.Nodes.{node, parts_below, number-word, linear-number, linear-variable, linear-neg, linear-add, linear-sub, linear-mul, linear-div, linear-rem}
use Rattle.interval_form.proofs.expressions.+linearise.Goals as goal

pub returns-in_ok-form-in-Number-clause-form : goal.returns-in_ok-form-in-Number-clause-form
returns-in_ok-form-in-Number-clause-form g t c =
    let ranges = g.R.Ranges.intervals c.args.ranges.now in
    let e = node c.args.core.now c.law_numbers.ensures c.in-Number.ensures.known c.args.expr (expr.Number c.in-Number.n) c.requires.known c.in-Number.ensures.found in
    let f = c.in_ok-form-in-Number.ensures.form (length ranges) in
    let k = linear-number ranges c.in-Number.n (expr_at (exprs_in c.args.core.now) c.args.expr) e in
    let h : c.in-Number.n ≤ 2 ^ 61 = parts_below c.args.core.now c.in-Number.ensures.known c.args.expr (expr.Number c.in-Number.n) c.requires.known c.in-Number.ensures.found in
    f ∙ (ap (λ z. constant_form (length ranges) (point z)) (number-word c.in-Number.n h) ∙ k)

pub returns-in_ok-form-in-Variable-clause-form : goal.returns-in_ok-form-in-Variable-clause-form
returns-in_ok-form-in-Variable-clause-form g t c =
    let ranges = g.R.Ranges.intervals c.args.ranges.now in
    let e = node c.args.core.now c.law_numbers.ensures c.in-Variable.ensures.known c.args.expr (expr.Variable c.in-Variable.v) c.requires.known c.in-Variable.ensures.found in
    c.in_ok-form-in-Variable.ensures.form (length ranges) ∙ linear-variable ranges c.in-Variable.v (expr_at (exprs_in c.args.core.now) c.args.expr) e

pub returns-in_ok-form-in-Neg-clause-form : goal.returns-in_ok-form-in-Neg-clause-form
returns-in_ok-form-in-Neg-clause-form g t c =
    let ranges = g.R.Ranges.intervals c.args.ranges.now in
    let trees = exprs_in c.args.core.now in
    let e = node c.args.core.now c.law_numbers.ensures c.in-Neg.ensures.known c.args.expr (expr.Neg c.in-Neg.a) c.requires.known c.in-Neg.ensures.found in
    c.in_ok-form-in-Neg.ensures.form ∙ linear-neg ranges (form_in (length ranges) c.in_ok-left-in-Neg.left) (expr_at trees c.in-Neg.a) (expr_at trees c.args.expr) c.in_ok-left-in-Neg.ensures.form e

pub returns-in_ok-form-in-Add-clause-form : goal.returns-in_ok-form-in-Add-clause-form
returns-in_ok-form-in-Add-clause-form g t c =
    let ranges = g.R.Ranges.intervals c.args.ranges.now in
    let trees = exprs_in c.args.core.now in
    let e = node c.args.core.now c.law_numbers.ensures c.in-Add.ensures.known c.args.expr (expr.Add c.in-Add.a c.in-Add.b) c.requires.known c.in-Add.ensures.found in
    c.in_ok-form-in-Add.ensures.form ∙ linear-add ranges (form_in (length ranges) c.in_ok-left-in-Add.left) (form_in (length ranges) c.in_ok-right-in-Add.right) (expr_at trees c.in-Add.a) (expr_at trees c.in-Add.b) (expr_at trees c.args.expr) c.in_ok-left-in-Add.ensures.form c.in_ok-right-in-Add.ensures.form e

pub returns-in_ok-form-in-Sub-clause-form : goal.returns-in_ok-form-in-Sub-clause-form
returns-in_ok-form-in-Sub-clause-form g t c =
    let ranges = g.R.Ranges.intervals c.args.ranges.now in
    let trees = exprs_in c.args.core.now in
    let e = node c.args.core.now c.law_numbers.ensures c.in-Sub.ensures.known c.args.expr (expr.Sub c.in-Sub.a c.in-Sub.b) c.requires.known c.in-Sub.ensures.found in
    c.in_ok-form-in-Sub.ensures.form ∙ linear-sub ranges (form_in (length ranges) c.in_ok-left-in-Sub.left) (form_in (length ranges) c.in_ok-right-in-Sub.right) (expr_at trees c.in-Sub.a) (expr_at trees c.in-Sub.b) (expr_at trees c.args.expr) c.in_ok-left-in-Sub.ensures.form c.in_ok-right-in-Sub.ensures.form e

pub returns-in_ok-form-in-Mul-clause-form : goal.returns-in_ok-form-in-Mul-clause-form
returns-in_ok-form-in-Mul-clause-form g t c =
    let ranges = g.R.Ranges.intervals c.args.ranges.now in
    let trees = exprs_in c.args.core.now in
    let e = node c.args.core.now c.law_numbers.ensures c.in-Mul.ensures.known c.args.expr (expr.Mul c.in-Mul.a c.in-Mul.b) c.requires.known c.in-Mul.ensures.found in
    c.in_ok-form-in-Mul.ensures.form ∙ linear-mul ranges (form_in (length ranges) c.in_ok-left-in-Mul.left) (form_in (length ranges) c.in_ok-right-in-Mul.right) (expr_at trees c.in-Mul.a) (expr_at trees c.in-Mul.b) (expr_at trees c.args.expr) c.in_ok-left-in-Mul.ensures.form c.in_ok-right-in-Mul.ensures.form e

pub returns-in_ok-right-in-Div-clause-form : goal.returns-in_ok-right-in-Div-clause-form
returns-in_ok-right-in-Div-clause-form g t c =
    let ranges = g.R.Ranges.intervals c.args.ranges.now in
    let trees = exprs_in c.args.core.now in
    let e = node c.args.core.now c.law_numbers.ensures c.in-Div.ensures.known c.args.expr (expr.Div c.in-Div.a c.in-Div.b) c.requires.known c.in-Div.ensures.found in
    c.quotient-form.ensures.form ∙ linear-div ranges (form_in (length ranges) c.in_ok-left-in-Div.left) (form_in (length ranges) c.in_ok-right-in-Div.right) (expr_at trees c.in-Div.a) (expr_at trees c.in-Div.b) (expr_at trees c.args.expr) c.in_ok-left-in-Div.ensures.form c.in_ok-right-in-Div.ensures.form e

pub returns-in_ok-right-in-Rem-clause-form : goal.returns-in_ok-right-in-Rem-clause-form
returns-in_ok-right-in-Rem-clause-form g t c =
    let ranges = g.R.Ranges.intervals c.args.ranges.now in
    let trees = exprs_in c.args.core.now in
    let e = node c.args.core.now c.law_numbers.ensures c.in-Rem.ensures.known c.args.expr (expr.Rem c.in-Rem.a c.in-Rem.b) c.requires.known c.in-Rem.ensures.found in
    c.remainder-form.ensures.form ∙ linear-rem ranges (form_in (length ranges) c.in_ok-left-in-Rem.left) (form_in (length ranges) c.in_ok-right-in-Rem.right) (expr_at trees c.in-Rem.a) (expr_at trees c.in-Rem.b) (expr_at trees c.args.expr) c.in_ok-left-in-Rem.ensures.form c.in_ok-right-in-Rem.ensures.form e
