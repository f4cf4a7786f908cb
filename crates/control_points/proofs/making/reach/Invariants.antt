use Rattle.std.proofs.Common.{ℕ, ◌<◌, ◌≤◌, get_or}
use Rattle.spl_tree.specs.declared.parts.Expr.{Expr}
use Rattle.control_points.specs.Making.{ReachesTo}
use Rattle.control_points.proofs.making.reach.Given as goal

-- the nodes so far reach down to here
abbrev pub invariant-loop-k : goal.invariant-loop-k
invariant-loop-k l = record {
  low : l.low ≤ l.fn.first;
  reach : (j : ℕ) (d : Expr) → l.fn.first ≤ j → j < l.k → ReachesTo l.low (get_or l.tree.exprs j d);
}
