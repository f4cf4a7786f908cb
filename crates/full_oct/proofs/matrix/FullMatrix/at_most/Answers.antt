use Rattle.std.proofs.Common.{length}
use Rattle.spl_core.specs.Graph.{expr_at, exprs_in}
use Rattle.interval_form.specs.Sparse.{form_in}
use Rattle.interval_form.proofs.Wider.{over-ranges}
use Rattle.transfer_def.proofs.Conditions.{at_most-is}
use Rattle.full_oct.proofs.Testing.{rows-ranges}
use Rattle.full_oct.proofs.matrix.FullMatrix.at_most.Goals as goal

pub linearise_difference-requires-clause-over_first : goal.linearise_difference-requires-clause-over_first
linearise_difference-requires-clause-over_first c = over-ranges c.args.dims c.args.self.now c.in_ok-ranges.ranges (expr_at (exprs_in c.args.core.now) c.args.a) c.in_ok-ranges.ensures.ranges c.requires.over_first

pub linearise_difference-requires-clause-over_second : goal.linearise_difference-requires-clause-over_second
linearise_difference-requires-clause-over_second c = over-ranges c.args.dims c.args.self.now c.in_ok-ranges.ranges (expr_at (exprs_in c.args.core.now) c.args.b) c.in_ok-ranges.ensures.ranges c.requires.over_second

pub restricted-requires-clause-rows : goal.restricted-requires-clause-rows
restricted-requires-clause-rows c = rows-ranges c.args.dims c.args.self.now c.in_ok-ranges.ranges (length c.args.self.now) c.in_ok-ranges.ensures.ranges c.requires.rows

pub returns : goal.returns
returns c =
    let trees = exprs_in c.args.core.now in
    let n = length c.in_ok-ranges.ranges in
    at_most-is c.args.dims (expr_at trees c.args.a) (expr_at trees c.args.b) c.args.self.now c.in_ok-ranges.ranges (form_in n c.in_ok-form.form) c.in_ok-after.after
    c.in_ok-ranges.ensures.ranges c.in_ok-form.ensures.form c.in_ok-after.ensures
