use Rattle.std.proofs.Common.{map}
use Rattle.spl_core.specs.Graph.{graph_of}
use Rattle.inv_check.specs.Verdict.{AreReadUpTo}
use Rattle.inv_check.proofs.checking.read_values.Given as goal

-- The points so far are read.
abbrev pub invariant-loop-p : goal.invariant-loop-p
invariant-loop-p g l = AreReadUpTo (graph_of l.core) (map g.D.Domain.meaning l.values) l.p (map g.D.Domain.meaning l.closed.items)
