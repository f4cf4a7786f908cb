use Rattle.std.proofs.Common.{Some, None, length, refl, sym, ap, subst, cond, ◌∙◌}
use Rattle.interval_form.specs.Sparse.{form_in}
use Rattle.interval_form.specs.Listed.{AreBounds}
use Rattle.conc_analysis.specs.Met.{met_by}
use Rattle.conc_analysis.proofs.Coding.{restricted_none, restricted_by}
use Rattle.conc_analysis.proofs.tests.restricted.Goals as goal

pub returns-in-Nothing : goal.returns-in-Nothing
returns-in-Nothing c =
    let f = form_in (length c.args.ranges.now) c.args.form.now in
    restricted_none f c.args.ranges.now (subst (AreBounds c.args.ranges.now f) c.in-Nothing.is c.in_ok-constraints.ensures)

pub returns-then-has_empty : goal.returns-then-has_empty
returns-then-has_empty c =
    let f = form_in (length c.args.ranges.now) c.args.form.now in
    restricted_by f c.args.ranges.now c.in-Few.bounds.items c.in_ok-met-in-Few.met None c.has_empty.result
    (subst (AreBounds c.args.ranges.now f) c.in-Few.is c.in_ok-constraints.ensures)
    (c.in_ok-met-in-Few.ensures ∙ ap (met_by c.args.ranges.now) c.as_slice.ensures.value) c.has_empty.ensures (sym (ap (λ b. cond b None (Some c.in_ok-met-in-Few.met)) c.if-has_empty.true))

pub returns : goal.returns
returns c =
    let f = form_in (length c.args.ranges.now) c.args.form.now in
    restricted_by f c.args.ranges.now c.in-Few.bounds.items c.in_ok-met-in-Few.met (Some c.in_ok-met-in-Few.met) c.has_empty.result
    (subst (AreBounds c.args.ranges.now f) c.in-Few.is c.in_ok-constraints.ensures)
    (c.in_ok-met-in-Few.ensures ∙ ap (met_by c.args.ranges.now) c.as_slice.ensures.value) c.has_empty.ensures (sym (ap (λ b. cond b None (Some c.in_ok-met-in-Few.met)) c.if-has_empty.false))
