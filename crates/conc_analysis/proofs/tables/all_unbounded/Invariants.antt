use Rattle.std.proofs.Common.{◌≡◌, map}
use Rattle.std.specs.List.{range_with_len}
use Rattle.conc_analysis.specs.Environment.{no_range}
use Rattle.conc_analysis.proofs.tables.all_unbounded.Given as goal

abbrev pub invariant-loop-v : goal.invariant-loop-v
invariant-loop-v l = l.ranges.items ≡ map no_range (range_with_len 0 l.v)
