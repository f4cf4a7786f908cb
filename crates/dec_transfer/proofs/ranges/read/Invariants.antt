use Rattle.std.proofs.Common.{◌≡◌}
use Rattle.interval_form.specs.Interval.{ranges_of}
use Rattle.dec_oct.specs.Value.{whole}
use Rattle.dec_lattice.specs.Over.{held}
use Rattle.dec_transfer.proofs.ranges.read.Given as goal

abbrev pub invariant-variables : goal.invariant-variables
invariant-variables l = l.ranges.items ≡ ranges_of l.v (whole l.value.dims (held l.value))
