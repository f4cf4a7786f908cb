use Rattle.std.proofs.Common.{◌≡◌, ◌<◌, ℕ}
use Rattle.interval_form.specs.Interval.{range_at}
use Rattle.conc_analysis.proofs.environment.same_ranges.Given as goal

abbrev pub invariant-loop-v : goal.invariant-loop-v
invariant-loop-v l = (k : ℕ) → k < l.v → range_at l.a k ≡ range_at l.b k
