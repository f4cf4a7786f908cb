use Rattle.std.proofs.Common.{sym, subst, length}
use Rattle.interval_form.specs.Sparse.{form_in}
use Rattle.interval_form.specs.Listed.{AreBounds, Lists}
use Rattle.dec_transfer.proofs.Restricting.{restricted-nothing, restricted-few}
use Rattle.dec_transfer.proofs.testing.restricted.Goals as goal

pub returns-in-Nothing-clause-value : goal.returns-in-Nothing-clause-value
returns-in-Nothing-clause-value c =
    let ranges = c.args.ranges.now in
    let f = form_in (length ranges) c.args.form.now in
    restricted-nothing ranges f c.args.v.now c.bottom.result c.dims.result c.dims.ensures (subst (AreBounds ranges f) c.in-Nothing.is c.in_ok-form_constraints.ensures) c.bottom.ensures.value

pub returns-in_ok-closed-in-Few-clause-value : goal.returns-in_ok-closed-in-Few-clause-value
returns-in_ok-closed-in-Few-clause-value c =
    let ranges = c.args.ranges.now in
    let f = form_in (length ranges) c.args.form.now in
    restricted-few ranges f c.deref.result.now c.args.v.now c.in_ok-closed-in-Few.closed c.requires.dims (subst (Lists ranges f) (sym c.deref.ensures.value) (subst (AreBounds ranges f) c.in-Few.is c.in_ok-form_constraints.ensures))
    c.in_ok-closed-in-Few.ensures.value c.requires.not_bottom
