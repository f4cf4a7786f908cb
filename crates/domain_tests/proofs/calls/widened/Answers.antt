use Rattle.domain_tests.proofs.Keeping.{after_widen}
use Rattle.domain_tests.proofs.calls.widened.Goals as goal

pub returns : goal.returns
returns g c = record { dims = after_widen _ _ _ c.in_ok-w.ensures.value }
