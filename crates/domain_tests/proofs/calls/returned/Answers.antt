use Rattle.domain_tests.proofs.Keeping.{after_back}
use Rattle.domain_tests.proofs.calls.returned.Goals as goal

pub returns : goal.returns
returns g c = record { dims = after_back _ _ _ _ _ _ c.in_ok-w.ensures.value }
