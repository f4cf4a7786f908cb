use Rattle.std.proofs.Common.{sym, subst, ◌∙◌, length}
use Rattle.interval_form.specs.Interval.{IsOutward}
use Rattle.interval_form.specs.Sparse.{form_in}
use Rattle.interval_form.proofs.Quotients.{outward-remainder_of}
use Rattle.interval_form.proofs.Dense.{remainder-alone}
use Rattle.interval_form.proofs.form.Form.remainder.Goals as goal

pub alone-requires : goal.alone-requires
alone-requires g c = subst IsOutward (sym c.remainder-constant.ensures) (outward-remainder_of c.value.result c.value-2.result c.value.ensures.outward c.value-2.ensures.outward)

pub returns-clause-form : goal.returns-clause-form
returns-clause-form g c =
    let ranges = g.R.Ranges.intervals c.args.ranges.now in
    remainder-alone ranges (form_in (length ranges) c.args.self.now) (form_in (length ranges) c.args.other.now) c.alone.result c.value.result c.value-2.result c.value.ensures.value c.value-2.ensures.value
    (c.alone.ensures.constant ∙ c.remainder-constant.ensures) c.alone.ensures.terms
