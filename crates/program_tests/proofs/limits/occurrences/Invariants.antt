use Rattle.std.proofs.Common.{◌≤◌}
use Rattle.program_tests.proofs.limits.occurrences.Given as goal

-- each place counts once at most
abbrev pub invariant-loop-at : goal.invariant-loop-at
invariant-loop-at l = l.count ≤ l.at
