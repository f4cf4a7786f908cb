use Rattle.std.proofs.Common.{◌≡◌, map}
use Rattle.std.specs.List.{range_with_len}
use Rattle.spl_core.specs.Graph.{graph_of}
use Rattle.inv_check.specs.Given.{given_at}
use Rattle.inv_check.proofs.given.values.Given as goal

-- The values of the points so far are there.
abbrev pub invariant-loop-p : goal.invariant-loop-p
invariant-loop-p l = l.values.items ≡ map (given_at (graph_of l.core) l.x) (range_with_len 0 l.p)
