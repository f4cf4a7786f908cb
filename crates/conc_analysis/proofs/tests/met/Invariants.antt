use Rattle.std.proofs.Common.{◌≡◌, map}
use Rattle.std.specs.List.{range_with_len}
use Rattle.conc_analysis.specs.Met.{met_at}
use Rattle.conc_analysis.proofs.tests.met.Given as goal

abbrev pub invariant-loop-v : goal.invariant-loop-v
invariant-loop-v l = l.met.items ≡ map (met_at l.ranges l.bounds) (range_with_len 0 l.v)
