use Rattle.std.proofs.Common.{◌∙◌}
use Rattle.domain_tests.proofs.Keeping.{after_havoc}
use Rattle.domain_tests.proofs.walks.changed.Goals as goal

pub returns-in_ok-havoc : goal.returns-in_ok-havoc
returns-in_ok-havoc g c = record { dims = after_havoc _ _ _ c.in_ok-havoc.ensures.value ∙ c.requires.dims }
