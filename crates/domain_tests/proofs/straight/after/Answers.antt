use Rattle.std.proofs.Common.{◌∙◌}
use Rattle.domain_tests.proofs.Keeping.{after_assign, after_havoc, after_test}
use Rattle.domain_tests.proofs.straight.after.Goals as goal

pub returns-in_ok-w-in-Assign : goal.returns-in_ok-w-in-Assign
returns-in_ok-w-in-Assign g c = record { dims = after_assign _ _ _ _ c.in_ok-w-in-Assign.ensures.value ∙ c.requires.dims }

pub returns-in_ok-w-in-Havoc : goal.returns-in_ok-w-in-Havoc
returns-in_ok-w-in-Havoc g c = record { dims = after_havoc _ _ _ c.in_ok-w-in-Havoc.ensures.value ∙ c.requires.dims }

pub returns-in_ok-w-in-Test : goal.returns-in_ok-w-in-Test
returns-in_ok-w-in-Test g c = record { dims = after_test _ _ _ _ c.in_ok-w-in-Test.ensures.value ∙ c.requires.dims }
