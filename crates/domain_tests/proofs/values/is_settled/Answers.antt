use Rattle.std.proofs.Common.{sym, ◌∙◌}
use Rattle.domain_tests.proofs.Keeping.{after_bottom}
use Rattle.domain_tests.proofs.values.is_settled.Goals as goal

pub same-is_bottom-requires : goal.same-is_bottom-requires
same-is_bottom-requires g c = record { dims = after_bottom _ _ c.bottom-bottom.ensures.value ∙ sym c.requires.dims }
