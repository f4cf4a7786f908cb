use Rattle.domain_tests.proofs.Keeping.{after_top}
use Rattle.domain_tests.proofs.walks.start.Goals as goal

pub loop-init : goal.loop-init
loop-init g c = after_top _ _ c.in_ok-v.ensures.value
