use Rattle.domain_tests.proofs.Keeping.{after_narrow}
use Rattle.domain_tests.proofs.calls.narrowed.Goals as goal

pub returns : goal.returns
returns g c = record { dims = after_narrow _ _ _ c.in_ok-w.ensures.value }
