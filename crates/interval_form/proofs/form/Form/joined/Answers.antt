use Rattle.std.proofs.Common.{sym, ap, subst, ◌∙◌, length}
use Rattle.interval_form.specs.Interval.{IsOutward}
use Rattle.interval_form.specs.Sparse.{Sparse, joined}
use Rattle.interval_form.proofs.Merging.{outward-joined}
use Rattle.interval_form.proofs.Dense.{joined-over, joined-in, joined-sums}
use Rattle.interval_form.proofs.form.Form.joined.Goals as goal

pub invariant_of-settled : goal.invariant_of-settled
invariant_of-settled g c = record {
  constant = subst IsOutward (sym c.joined_coefficient-constant.ensures) (outward-joined c.args.minus c.self.inside.constant c.other.inside.constant);
  terms = c.in_ok-terms.ensures.rising;
}

pub settled-form-requires : goal.settled-form-requires
settled-form-requires g c =
    let n = length (g.R.Ranges.intervals c.args.ranges.now) in
    let sums = joined-sums c.args.minus c.args.self.now.terms c.args.other.now.terms c.as_slice.result.now c.as_slice-2.result.now c.in_ok-terms.terms.items
    (c.as_slice.ensures ∙ ap (λ s. s.terms) c.self.view_is) (c.as_slice-2.ensures ∙ ap (λ s. s.terms) c.other.view_is) c.in_ok-terms.ensures.sums in
    joined-over c.args.minus n c.args.self.now.terms c.args.other.now.terms c.in_ok-terms.terms.items c.requires.left c.requires.right c.in_ok-terms.ensures.rising sums

pub returns-clause-form : goal.returns-clause-form
returns-clause-form g c =
    let ranges = g.R.Ranges.intervals c.args.ranges.now in
    let sums = joined-sums c.args.minus c.args.self.now.terms c.args.other.now.terms c.as_slice.result.now c.as_slice-2.result.now c.in_ok-terms.terms.items
    (c.as_slice.ensures ∙ ap (λ s. s.terms) c.self.view_is) (c.as_slice-2.ensures ∙ ap (λ s. s.terms) c.other.view_is) c.in_ok-terms.ensures.sums in
    let e = c.joined_coefficient-constant.ensures ∙ (ap (λ (s : Sparse). joined c.args.minus s.constant c.other.inside.constant) c.self.view_is
    ∙ ap (λ (s : Sparse). joined c.args.minus c.args.self.now.constant s.constant) c.other.view_is) in
    joined-in c.args.minus ranges c.args.self.now c.args.other.now (record { constant = c.joined_coefficient-constant.result; terms = c.in_ok-terms.terms.items }) c.settled-form.result e sums c.settled-form.ensures.form
