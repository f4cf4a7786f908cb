use Rattle.std.proofs.Common.{◌≡◌, map}
use Rattle.std.specs.List.{range_with_len}
use Rattle.conc_analysis.specs.Met.{range_with}
use Rattle.conc_analysis.proofs.tables.with_range.Given as goal

abbrev pub invariant-loop-v : goal.invariant-loop-v
invariant-loop-v l = l.changed.items ≡ map (range_with l.ranges l.x l.i) (range_with_len 0 l.v)
