use Rattle.std.proofs.Common.{◌≡◌, ℕ, ◌<◌, true, [], get_or}
use Rattle.conc_analysis.specs.Rounds.{same_option, same_range, same_list}
use Rattle.conc_analysis.specs.Tables.{rows_in}
use Rattle.conc_analysis.proofs.writing.same_writes.Given as goal

abbrev pub invariant-loop-t : goal.invariant-loop-t
invariant-loop-t l = (k : ℕ) → k < l.t → same_list (same_option same_range) (get_or (rows_in l.a) k []) (get_or (rows_in l.b) k []) ≡ true
