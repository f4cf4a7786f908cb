use Rattle.std.proofs.Common.{◌≡◌, [], replicate, map}
use Rattle.spl_runs.proofs.leaving.no_edges.Given as goal

abbrev pub invariant-loop-point : goal.invariant-loop-point
invariant-loop-point l = map (λ v. v.items) l.lists.items ≡ replicate l.point []
