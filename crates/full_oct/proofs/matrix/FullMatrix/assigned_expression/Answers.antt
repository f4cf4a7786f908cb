use Rattle.spl_core.specs.Graph.{expr_at, exprs_in}
use Rattle.interval_form.proofs.Wider.{over-ranges, form-over}
use Rattle.full_oct.proofs.Forming.{assigned-is}
use Rattle.full_oct.proofs.matrix.FullMatrix.assigned_expression.Goals as goal

pub linearise-requires-clause-over : goal.linearise-requires-clause-over
linearise-requires-clause-over c = over-ranges c.args.dims c.args.self.now c.in_ok-ranges.ranges (expr_at (exprs_in c.args.core.now) c.args.expr) c.in_ok-ranges.ensures.ranges c.requires.over

pub assigned_form-requires-clause-over : goal.assigned_form-requires-clause-over
assigned_form-requires-clause-over c = form-over c.args.dims c.args.self.now c.in_ok-ranges.ranges c.in_ok-form.form c.in_ok-ranges.ensures.ranges c.in_ok-form.ensures.over

pub returns : goal.returns
returns c =
    assigned-is c.args.dims c.args.target (expr_at (exprs_in c.args.core.now) c.args.expr) c.args.self.now c.in_ok-ranges.ranges c.in_ok-form.form c.in_ok-after.after
    c.in_ok-ranges.ensures.ranges c.in_ok-form.ensures.form c.in_ok-after.ensures
