use Rattle.std.proofs.Common.{sym, subst}
use Rattle.oct_def.specs.Bound.{InRange}
use Rattle.interval_form.proofs.Quotients.{in_range-low_quotient, in_range-high_quotient}
use Rattle.interval_form.proofs.interval.Interval.by_positive.Goals as goal

pub returns-clause-outward : goal.returns-clause-outward
returns-clause-outward c = record {
  low_in_range = subst InRange (sym c.low_quotient.ensures) (in_range-low_quotient c.args.self.low c.args.divisor c.requires.outward.low_in_range);
  high_in_range = subst InRange (sym c.high_quotient.ensures) (in_range-high_quotient c.args.self.high c.args.divisor c.requires.outward.high_in_range);
}
