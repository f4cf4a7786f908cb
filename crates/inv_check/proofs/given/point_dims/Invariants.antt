use Rattle.std.proofs.Common.{◌≡◌, ◌≤◌, map}
use Rattle.std.specs.List.{All, range_with_len}
use Rattle.spl_core.specs.Graph.{graph_of, dims_at}
use Rattle.inv_check.proofs.given.point_dims.Given as goal

-- The numbers of the points so far are there.
abbrev pub invariant-loop-p : goal.invariant-loop-p
invariant-loop-p l = record {
  dims : l.dims.items ≡ map (dims_at (graph_of l.core)) (range_with_len 0 l.p);
  small : All (λ n. n ≤ 256) l.dims.items;
}
