use Rattle.std.proofs.Common.{◌≡◌}
use Rattle.domain_tests.proofs.walks.start.Given as goal

abbrev pub invariant-loop : goal.invariant-loop
invariant-loop g l = (g.D.Domain.meaning l.v).dims ≡ 6
