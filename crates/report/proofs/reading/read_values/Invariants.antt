use Rattle.std.proofs.Common.{◌≡◌, ◌≤◌, map}
use Rattle.std.specs.List.{range_with_len}
use Rattle.iteration.specs.Solution.{read_in}
use Rattle.report.proofs.reading.read_values.Given as goal

-- The values of the points so far.
abbrev pub invariant-loop-point : goal.invariant-loop-point
invariant-loop-point g l = record {
  values : map g.D.Domain.meaning l.values.items ≡ map (read_in l.solution) (range_with_len 0 l.point);
  work : g.D.Domain.work l.fn.dom ≤ g.D.Domain.work l.dom;
}
