use Rattle.std.proofs.Common.{◌∙◌, length, ap, subst}
use Rattle.interval_form.specs.Sparse.{form_in}
use Rattle.interval_form.specs.Listed.{AreBounds}
use Rattle.full_oct.specs.Taken.{taken}
use Rattle.full_oct.proofs.Taking.{bounded-nothing, bounded-few}
use Rattle.full_oct.proofs.matrix.FullMatrix.bounded_by.Goals as goal

pub returns-in-Nothing : goal.returns-in-Nothing
returns-in-Nothing g c =
    let ranges = g.R.Ranges.intervals c.args.ranges.now in
    let f = form_in (length ranges) c.args.form.now in
    bounded-nothing ranges f c.args.self (subst (AreBounds ranges f) c.in-Nothing.is c.in_ok-constraints.ensures)

pub returns-in-Few : goal.returns-in-Few
returns-in-Few g c =
    let ranges = g.R.Ranges.intervals c.args.ranges.now in
    let f = form_in (length ranges) c.args.form.now in
    bounded-few ranges f c.args.self c.take_all.new.self c.in-Few.bounds.items c.requires.rows c.size-dims.ensures.square (subst (AreBounds ranges f) c.in-Few.is c.in_ok-constraints.ensures)
    (c.take_all.ensures ∙ ap (taken c.args.self) c.as_slice.ensures.value)
