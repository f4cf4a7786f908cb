use Rattle.domain_tests.proofs.Keeping.{after_tight}
use Rattle.domain_tests.proofs.calls.closed.Goals as goal

pub returns : goal.returns
returns g c = record { dims = after_tight _ _ c.in_ok-w.ensures.value }
