use Rattle.std.proofs.Common.{◌≡◌, map}
use Rattle.std.specs.List.{range_with_len}
use Rattle.conc_analysis.specs.Equations.{entry_range_at}
use Rattle.conc_analysis.proofs.equation.started.Given as goal

abbrev pub invariant-loop-d : goal.invariant-loop-d
invariant-loop-d l = l.ranges.items ≡ map (entry_range_at l.threads l.t l.exit) (range_with_len 0 l.d)
