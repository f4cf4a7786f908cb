use Rattle.std.proofs.Common.{◌≡◌, sym, ap, ◌∙◌, true, false}
use Rattle.interval_form.specs.Sparse.{any_unbounded}
use Rattle.interval_form.proofs.Dense.{settled-bounded, settled-unbounded}
use Rattle.interval_form.proofs.form.settled.Goals as goal

pub returns-then-not-any_unbounded-clause-form : goal.returns-then-not-any_unbounded-clause-form
returns-then-not-any_unbounded-clause-form g c =
    let ranges = g.R.Ranges.intervals c.args.ranges.now in
    let e : any_unbounded c.args.form.terms ≡ false =
    ap (λ s. any_unbounded s.terms) (sym c.form.view_is) ∙ (ap any_unbounded (sym c.as_slice.ensures) ∙ (sym c.any_unbounded.ensures ∙ c.if-not-any_unbounded.true)) in
    settled-bounded ranges c.args.form c.requires e

pub returns-clause-form : goal.returns-clause-form
returns-clause-form g c =
    let ranges = g.R.Ranges.intervals c.args.ranges.now in
    let e : any_unbounded c.args.form.terms ≡ true =
    ap (λ s. any_unbounded s.terms) (sym c.form.view_is) ∙ (ap any_unbounded (sym c.as_slice.ensures) ∙ (sym c.any_unbounded.ensures ∙ c.if-not-any_unbounded.false)) in
    settled-unbounded ranges c.args.form c.alone.result c.requires e (c.alone.ensures.constant ∙ c.value-constant.ensures.value) c.alone.ensures.terms
