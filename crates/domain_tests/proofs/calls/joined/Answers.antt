use Rattle.domain_tests.proofs.Keeping.{after_join}
use Rattle.domain_tests.proofs.calls.joined.Goals as goal

pub returns : goal.returns
returns g c = record { dims = after_join _ _ _ c.in_ok-w.ensures.value }
