use Rattle.std.proofs.Common.{length, inl, subst}
use Rattle.interval_form.specs.Sparse.{form_in}
use Rattle.interval_form.specs.Listed.{AreBounds}
use Rattle.dec_transfer.proofs.Lowering.{lists-both}
use Rattle.dec_transfer.proofs.bounding.bounds_of_both.Goals as goal

pub returns-in-Nothing : goal.returns-in-Nothing
returns-in-Nothing c =
    let ranges = c.args.ranges.now in
    inl (subst (AreBounds ranges (form_in (length ranges) c.args.first.now)) c.in-Nothing.is c.in_ok-form_constraints.ensures)

pub returns-in_ok-all-in-Few-2 : goal.returns-in_ok-all-in-Few-2
returns-in_ok-all-in-Few-2 c =
    let ranges = c.args.ranges.now in
    let f = form_in (length ranges) c.args.first.now in
    let g = form_in (length ranges) c.args.second.now in
    lists-both ranges f g c.in-Few.bounds.items c.in-Few-2.more.items c.in_ok-all-in-Few-2.all.items (subst (AreBounds ranges f) c.in-Few.is c.in_ok-form_constraints.ensures)
    (subst (AreBounds ranges g) c.in-Few-2.is c.in_ok-form_constraints-in-Few.ensures) c.in_ok-all-in-Few-2.ensures
