use Rattle.std.proofs.Common.{◌≡◌, sym, ap, subst, ◌∙◌, length}
use Rattle.interval_form.specs.Interval.{IsOutward, product_of}
use Rattle.interval_form.specs.Sparse.{Sparse, Terms, past_all, scaled_terms}
use Rattle.interval_form.proofs.Exact.{outward-product_of}
use Rattle.interval_form.proofs.Dense.{scaled-in, scaled-terms}
use Rattle.interval_form.proofs.form.Form.scaled.Goals as goal

pub invariant_of-settled : goal.invariant_of-settled
invariant_of-settled g c =
    let e : c.in_ok-terms.terms.items ≡ scaled_terms c.args.k c.args.self.now.terms = c.in_ok-terms.ensures ∙ ap (scaled_terms c.args.k) (c.as_slice.ensures ∙ ap (λ s. s.terms) c.self.view_is) in
    record {
      constant = subst IsOutward (sym c.times-constant.ensures) (outward-product_of c.args.k c.self.inside.constant);
      terms = subst (Terms 0 past_all) (sym e) (scaled-terms c.args.k 0 past_all c.args.self.now.terms c.known.ensures.terms);
    }

pub settled-form-requires : goal.settled-form-requires
settled-form-requires g c =
    let n = length (g.R.Ranges.intervals c.args.ranges.now) in
    let e : c.in_ok-terms.terms.items ≡ scaled_terms c.args.k c.args.self.now.terms = c.in_ok-terms.ensures ∙ ap (scaled_terms c.args.k) (c.as_slice.ensures ∙ ap (λ s. s.terms) c.self.view_is) in
    subst (Terms 0 n) (sym e) (scaled-terms c.args.k 0 n c.args.self.now.terms c.requires)

pub returns-clause-form : goal.returns-clause-form
returns-clause-form g c =
    let ranges = g.R.Ranges.intervals c.args.ranges.now in
    let e : c.in_ok-terms.terms.items ≡ scaled_terms c.args.k c.args.self.now.terms = c.in_ok-terms.ensures ∙ ap (scaled_terms c.args.k) (c.as_slice.ensures ∙ ap (λ s. s.terms) c.self.view_is) in
    scaled-in ranges c.args.k c.args.self.now (record { constant = c.times-constant.result; terms = c.in_ok-terms.terms.items }) c.settled-form.result c.requires
    (c.times-constant.ensures ∙ ap (λ (s : Sparse). product_of c.args.k s.constant) c.self.view_is) e c.settled-form.ensures.form
