use Rattle.domain_tests.proofs.Keeping.{after_enter}
use Rattle.domain_tests.proofs.calls.entered.Goals as goal

pub returns : goal.returns
returns g c = record { dims = after_enter _ _ _ _ c.in_ok-w.ensures.value }
