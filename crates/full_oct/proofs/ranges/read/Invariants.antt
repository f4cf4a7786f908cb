use Rattle.std.proofs.Common.{◌≡◌}
use Rattle.interval_form.specs.Interval.{ranges_of}
use Rattle.full_oct.proofs.ranges.read.Given as goal

abbrev pub invariant-variables : goal.invariant-variables
invariant-variables l = l.ranges.items ≡ ranges_of l.v l.matrix
