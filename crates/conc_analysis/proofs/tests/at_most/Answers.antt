use Rattle.std.proofs.Common.{length}
use Rattle.spl_core.specs.Graph.{expr_at, exprs_in}
use Rattle.interval_form.specs.Sparse.{form_in}
use Rattle.conc_analysis.proofs.Testing.{at_most-none, at_most-is}
use Rattle.conc_analysis.proofs.tests.at_most.Goals as goal

pub returns-in-None : goal.returns-in-None
returns-in-None c = at_most-none (expr_at (exprs_in c.args.core.now) c.args.a) (expr_at (exprs_in c.args.core.now) c.args.b) c.args.v.now c.in-None.is

pub returns-in_ok-after-in-Some : goal.returns-in_ok-after-in-Some
returns-in_ok-after-in-Some c =
    at_most-is (expr_at (exprs_in c.args.core.now) c.args.a) (expr_at (exprs_in c.args.core.now) c.args.b) c.args.v.now c.in_ok-after-in-Some.after c.in-Some.ranges (form_in (length c.in-Some.ranges) c.in_ok-form-in-Some.form)
    c.in-Some.is c.in_ok-form-in-Some.ensures.form c.in_ok-after-in-Some.ensures
