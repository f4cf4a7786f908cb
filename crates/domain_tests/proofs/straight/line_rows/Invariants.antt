use Rattle.std.proofs.Common.{◌≡◌}
use Rattle.domain_tests.proofs.straight.line_rows.Given as goal

abbrev pub invariant-loop-k : goal.invariant-loop-k
invariant-loop-k l = l.v.dims ≡ l.proc.dims
