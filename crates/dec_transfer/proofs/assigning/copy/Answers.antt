use Rattle.std.proofs.Common.{rules, ◌≡◌, None}
use Rattle.spl_core.specs.Expression.{Variable}
use Rattle.dec_oct.specs.Value.{whole}
use Rattle.dec_lattice.specs.Over.{held}
use Rattle.dec_transfer.proofs.Assigned.{of-bottom, form-of-copy}
use Rattle.dec_transfer.proofs.assigning.copy.Goals as goal

pub returns-then-is_none-clause-value : goal.returns-then-is_none-clause-value
returns-then-is_none-clause-value c =
    let none : c.args.v.now.blocks ≡ None = search rules in
    of-bottom c.args.v.now c.bottom.result c.args.target c.dims.result (Variable c.args.origin) none c.dims.ensures c.bottom.ensures.value

pub returns-clause-value : goal.returns-clause-value
returns-clause-value c =
    let v = c.args.v.now in
    (c.in_ok-after.ensures.after (Variable c.args.origin) (form-of-copy v.dims (whole v.dims (held v)) c.args.origin c.in_ok-form.form c.in_ok-form.ensures.form)).value

pub returns-clause-count : goal.returns-clause-count
returns-clause-count c =
    let v = c.args.v.now in
    (c.in_ok-after.ensures.after (Variable c.args.origin) (form-of-copy v.dims (whole v.dims (held v)) c.args.origin c.in_ok-form.form c.in_ok-form.ensures.form)).count

pub returns-clause-marks : goal.returns-clause-marks
returns-clause-marks c =
    let v = c.args.v.now in
    (c.in_ok-after.ensures.after (Variable c.args.origin) (form-of-copy v.dims (whole v.dims (held v)) c.args.origin c.in_ok-form.form c.in_ok-form.ensures.form)).marks
