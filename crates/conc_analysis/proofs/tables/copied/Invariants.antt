use Rattle.std.proofs.Common.{◌≡◌, map}
use Rattle.std.specs.List.{range_with_len}
use Rattle.interval_form.specs.Interval.{range_at}
use Rattle.conc_analysis.proofs.tables.copied.Given as goal

abbrev pub invariant-loop-v : goal.invariant-loop-v
invariant-loop-v l = l.copy.items ≡ map (range_at l.ranges) (range_with_len 0 l.v)
