use Rattle.std.proofs.Common.{sym, ap, subst, ◌∙◌, length}
use Rattle.interval_form.specs.Interval.{IsOutward}
use Rattle.interval_form.specs.Sparse.{Sparse, folded, form_in}
use Rattle.interval_form.proofs.Dense.{folded-value, constant-in}
use Rattle.interval_form.proofs.Outward.{outward-form_value}
use Rattle.interval_form.proofs.form.Form.value.Goals as goal

pub returns-clause-value : goal.returns-clause-value
returns-clause-value g c =
    let ranges = g.R.Ranges.intervals c.args.ranges.now in
    let o : IsOutward c.args.self.now.constant = subst (λ (s : Sparse). IsOutward s.constant) c.self.view_is c.self.invariant.constant in
    c.value_of.ensures ∙ (ap (folded ranges c.self.inside.constant) c.as_slice.ensures
    ∙ (ap (λ (s : Sparse). folded ranges s.constant s.terms) c.self.view_is ∙ folded-value ranges c.args.self.now o c.requires))

pub returns-clause-outward : goal.returns-clause-outward
returns-clause-outward g c =
    let ranges = g.R.Ranges.intervals c.args.ranges.now in
    let o : IsOutward c.args.self.now.constant = subst (λ (s : Sparse). IsOutward s.constant) c.self.view_is c.self.invariant.constant in
    let e = c.value_of.ensures ∙ (ap (folded ranges c.self.inside.constant) c.as_slice.ensures
    ∙ (ap (λ (s : Sparse). folded ranges s.constant s.terms) c.self.view_is ∙ folded-value ranges c.args.self.now o c.requires)) in
    subst IsOutward (sym e) (outward-form_value ranges (form_in (length ranges) c.args.self.now) (subst IsOutward (sym (constant-in (length ranges) c.args.self.now)) o))
