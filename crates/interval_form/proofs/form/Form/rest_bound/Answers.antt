use Rattle.std.proofs.Common.{◌≡◌, sym, ap, subst, ◌∙◌, length, List}
use Rattle.interval_form.specs.declared.form.Term.{Term}
use Rattle.interval_form.specs.Interval.{IsOutward}
use Rattle.interval_form.specs.Sparse.{Sparse, folded, form_in}
use Rattle.interval_form.specs.Listing.{without_terms}
use Rattle.interval_form.proofs.Rests.{rest-value, outward-rest, rest-in}
use Rattle.interval_form.proofs.form.Form.rest_bound.Goals as goal

pub negated_bound-requires : goal.negated_bound-requires
negated_bound-requires g c =
    let ranges = g.R.Ranges.intervals c.args.ranges.now in
    let s = c.args.self.now in
    let e : c.value_without-rest.result ≡ folded ranges s.constant (without_terms c.args.u c.args.w s.terms) =
    c.value_without-rest.ensures ∙ (ap (λ (ts : List Term). folded ranges c.self.inside.constant (without_terms c.args.u c.args.w ts)) c.as_slice.ensures
    ∙ ap (λ (x : Sparse). folded ranges x.constant (without_terms c.args.u c.args.w x.terms)) c.self.view_is) in
    let o : IsOutward c.value_without-rest.result = subst IsOutward (sym e) (outward-rest ranges c.args.u c.args.w s c.known.ensures.constant c.requires) in
    o.low_in_range

pub returns : goal.returns
returns g c =
    let ranges = g.R.Ranges.intervals c.args.ranges.now in
    let s = c.args.self.now in
    let e : c.value_without-rest.result ≡ folded ranges s.constant (without_terms c.args.u c.args.w s.terms) =
    c.value_without-rest.ensures ∙ (ap (λ (ts : List Term). folded ranges c.self.inside.constant (without_terms c.args.u c.args.w ts)) c.as_slice.ensures
    ∙ ap (λ (x : Sparse). folded ranges x.constant (without_terms c.args.u c.args.w x.terms)) c.self.view_is) in
    c.negated_bound.ensures ∙ rest-in ranges c.args.u c.args.w (form_in (length ranges) s) c.value_without-rest.result (e ∙ rest-value ranges c.args.u c.args.w s c.known.ensures.constant c.requires)
