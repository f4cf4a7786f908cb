use Rattle.std.proofs.Common.{◌≡◌, ℕ, ◌<◌, true, None, get_or}
use Rattle.conc_analysis.specs.Rounds.{same_option, same_range}
use Rattle.conc_analysis.proofs.writing.same_row.Given as goal

abbrev pub invariant-loop-v : goal.invariant-loop-v
invariant-loop-v l = (k : ℕ) → k < l.v → same_option same_range (get_or l.a k None) (get_or l.b k None) ≡ true
