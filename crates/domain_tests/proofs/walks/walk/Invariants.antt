use Rattle.std.proofs.Common.{◌≡◌, ◌+◌, length}
use Rattle.std.specs.List.{All}
use Rattle.domain_tests.proofs.walks.walk.Given as goal

abbrev pub invariant-loop-step : goal.invariant-loop-step
invariant-loop-step g l = (length l.values.items ≡ l.step + 1) × All (λ v. (g.D.Domain.meaning v).dims ≡ 6) l.values.items
