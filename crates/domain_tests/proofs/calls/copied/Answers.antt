use Rattle.domain_tests.proofs.Keeping.{after_assign}
use Rattle.domain_tests.proofs.calls.copied.Goals as goal

pub returns : goal.returns
returns g c = record { dims = after_assign _ _ _ _ c.in_ok-w.ensures.value }
