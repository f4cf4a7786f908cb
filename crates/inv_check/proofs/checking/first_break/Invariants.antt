use Rattle.std.proofs.Common.{ℕ, ◌<◌, map}
use Rattle.spl_core.specs.Graph.{graph_of}
use Rattle.equations.specs.Equations.{value_in}
use Rattle.equations.specs.Inductive.{IsInductiveAt}
use Rattle.inv_check.proofs.checking.first_break.Given as goal

-- No point so far breaks it.
abbrev pub invariant-loop-p : goal.invariant-loop-p
invariant-loop-p g l = (k : ℕ) → k < l.p → IsInductiveAt (graph_of l.core) (value_in (map g.D.Domain.meaning l.values)) k
