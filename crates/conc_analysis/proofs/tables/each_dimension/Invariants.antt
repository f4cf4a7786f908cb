use Rattle.std.proofs.Common.{◌≡◌, map}
use Rattle.std.specs.List.{range_with_len}
use Rattle.conc_analysis.specs.Environment.{dimension_by}
use Rattle.conc_analysis.specs.Tables.{by_ends}
use Rattle.conc_analysis.proofs.tables.each_dimension.Given as goal

abbrev pub invariant-loop-v : goal.invariant-loop-v
invariant-loop-v l = l.ranges.items ≡ map (dimension_by (by_ends l.operation) l.a l.b) (range_with_len 0 l.v)
