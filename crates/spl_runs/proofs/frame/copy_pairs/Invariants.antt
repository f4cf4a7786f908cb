use Rattle.std.proofs.Common.{◌≡◌, ◌*◌, drop}
use Rattle.spl_core.specs.Parts.{span_dims}
use Rattle.spl_core.specs.Graph.{pairs_in}
use Rattle.spl_runs.specs.Runs.{copied}
use Rattle.spl_runs.proofs.frame.copy_pairs.Given as goal

abbrev pub invariant-loop-k : goal.invariant-loop-k
invariant-loop-k l = copied (pairs_in (span_dims l.core l.pairs)) l.fn.values ≡ copied (pairs_in (drop (2 * l.k) (span_dims l.core l.pairs))) l.values
