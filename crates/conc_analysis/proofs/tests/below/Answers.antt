use Rattle.std.proofs.Common.{length}
use Rattle.spl_core.specs.Graph.{expr_at, exprs_in}
use Rattle.interval_form.specs.Sparse.{form_in}
use Rattle.conc_analysis.proofs.Testing.{below-none, below-is}
use Rattle.conc_analysis.proofs.tests.below.Goals as goal

pub returns-in-None : goal.returns-in-None
returns-in-None c = below-none (expr_at (exprs_in c.args.core.now) c.args.a) (expr_at (exprs_in c.args.core.now) c.args.b) c.args.v.now c.in-None.is

pub returns-in_ok-after-in-Some : goal.returns-in_ok-after-in-Some
returns-in_ok-after-in-Some c =
    let n = length c.in-Some.ranges in
    below-is (expr_at (exprs_in c.args.core.now) c.args.a) (expr_at (exprs_in c.args.core.now) c.args.b) c.args.v.now c.in_ok-after-in-Some.after c.in-Some.ranges
    (form_in n c.in_ok-form-in-Some.form) (form_in n c.in_ok-minus_one-in-Some.minus_one) (form_in n c.in_ok-and_one-in-Some.and_one)
    c.in-Some.is c.in_ok-form-in-Some.ensures.form (c.in_ok-minus_one-in-Some.ensures.form n) c.in_ok-and_one-in-Some.ensures.form c.in_ok-after-in-Some.ensures
