use Rattle.std.proofs.Common.{rules, ◌≡◌, None}
use Rattle.std.specs.Prelude.{IsSome}
use Rattle.spl_core.specs.Graph.{expr_at, exprs_in}
use Rattle.interval_form.proofs.Wider.{over-ranges, form-over}
use Rattle.dec_oct.specs.Value.{whole}
use Rattle.dec_lattice.specs.Over.{held}
use Rattle.dec_transfer.proofs.Assigned.{of-bottom, held-ranges_of, form-of-expression}
use Rattle.dec_transfer.proofs.assigning.assign.Goals as goal

pub returns-then-is_none-clause-value : goal.returns-then-is_none-clause-value
returns-then-is_none-clause-value c =
    let none : c.args.v.now.blocks ≡ None = search rules in
    of-bottom c.args.v.now c.bottom.result c.args.target c.dims.result (expr_at (exprs_in c.args.core.now) c.args.expr) none c.dims.ensures c.bottom.ensures.value

pub linearise-requires-clause-over : goal.linearise-requires-clause-over
linearise-requires-clause-over c =
    let v = c.args.v.now in
    let some : IsSome v.blocks = search rules in
    over-ranges v.dims (whole v.dims (held v)) c.in_ok-ranges.ranges (expr_at (exprs_in c.args.core.now) c.args.expr) (held-ranges_of v c.in_ok-ranges.ranges some c.in_ok-ranges.ensures) c.requires.over

pub assign_form-requires-clause-over : goal.assign_form-requires-clause-over
assign_form-requires-clause-over c =
    let v = c.args.v.now in
    let some : IsSome v.blocks = search rules in
    form-over v.dims (whole v.dims (held v)) c.in_ok-ranges.ranges c.in_ok-form.form (held-ranges_of v c.in_ok-ranges.ranges some c.in_ok-ranges.ensures) c.in_ok-form.ensures.over

pub returns-clause-value : goal.returns-clause-value
returns-clause-value c =
    let v = c.args.v.now in
    let e = expr_at (exprs_in c.args.core.now) c.args.expr in
    let some : IsSome v.blocks = search rules in
    let form = form-of-expression v.dims (whole v.dims (held v)) c.in_ok-ranges.ranges e c.in_ok-form.form (held-ranges_of v c.in_ok-ranges.ranges some c.in_ok-ranges.ensures) c.in_ok-form.ensures.form in
    (c.in_ok-after.ensures.after e form).value

pub returns-clause-count : goal.returns-clause-count
returns-clause-count c =
    let v = c.args.v.now in
    let e = expr_at (exprs_in c.args.core.now) c.args.expr in
    let some : IsSome v.blocks = search rules in
    let form = form-of-expression v.dims (whole v.dims (held v)) c.in_ok-ranges.ranges e c.in_ok-form.form (held-ranges_of v c.in_ok-ranges.ranges some c.in_ok-ranges.ensures) c.in_ok-form.ensures.form in
    (c.in_ok-after.ensures.after e form).count

pub returns-clause-marks : goal.returns-clause-marks
returns-clause-marks c =
    let v = c.args.v.now in
    let e = expr_at (exprs_in c.args.core.now) c.args.expr in
    let some : IsSome v.blocks = search rules in
    let form = form-of-expression v.dims (whole v.dims (held v)) c.in_ok-ranges.ranges e c.in_ok-form.form (held-ranges_of v c.in_ok-ranges.ranges some c.in_ok-ranges.ensures) c.in_ok-form.ensures.form in
    (c.in_ok-after.ensures.after e form).marks
