use Rattle.std.proofs.Common.{◌≡◌, ◌<◌, ℕ, false}
use Rattle.conc_analysis.specs.EnvironmentMove.{is_empty_at}
use Rattle.conc_analysis.proofs.tests.has_empty.Given as goal

abbrev pub invariant-loop-v : goal.invariant-loop-v
invariant-loop-v l = (k : ℕ) → k < l.v → is_empty_at l.ranges k ≡ false
