use Rattle.std.proofs.Common.{◌≡◌}
use Rattle.domain_tests.proofs.straight.at_end.Given as goal

abbrev pub invariant-loop-k : goal.invariant-loop-k
invariant-loop-k g l = (g.D.Domain.meaning l.v).dims ≡ l.proc.dims
