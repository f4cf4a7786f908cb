use Rattle.std.proofs.Common.{◌∙◌, refl}
use Rattle.interval_form.proofs.expressions.linearise_difference.Goals as goal

pub returns-clause-form : goal.returns-clause-form
returns-clause-form g c =
    let ranges = g.R.Ranges.intervals c.args.ranges.now in
    c.in_ok-form.ensures.form ∙ rw (c.in_ok-left.ensures.form, c.in_ok-right.ensures.form) refl
