use Rattle.std.proofs.Common.{◌≡◌, take}
use Rattle.spl_core.specs.Parts.{span_dims}
use Rattle.spl_runs.specs.Runs.{values_of}
use Rattle.spl_runs.proofs.frame.values_at.Given as goal

abbrev pub invariant-loop-k : goal.invariant-loop-k
invariant-loop-k l = l.all.items ≡ values_of l.values (take l.k (span_dims l.core l.dims))
