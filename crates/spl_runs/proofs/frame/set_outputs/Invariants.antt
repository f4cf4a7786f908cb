use Rattle.std.proofs.Common.{◌≡◌, drop}
use Rattle.spl_core.specs.Parts.{span_dims}
use Rattle.spl_runs.specs.Runs.{with_values}
use Rattle.spl_runs.proofs.frame.set_outputs.Given as goal

abbrev pub invariant-loop-k : goal.invariant-loop-k
invariant-loop-k l = with_values l.fn.values (span_dims l.core l.targets) l.outputs ≡ with_values l.values (drop l.k (span_dims l.core l.targets)) (drop l.k l.outputs)
