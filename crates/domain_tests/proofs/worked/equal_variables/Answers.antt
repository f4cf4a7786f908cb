use Rattle.domain_tests.proofs.Keeping.{after_top}
use Rattle.domain_tests.proofs.worked.equal_variables.Goals as goal

pub copied-requires-clause-dims : goal.copied-requires-clause-dims
copied-requires-clause-dims c = after_top _ _ c.in_ok-top.ensures.value
