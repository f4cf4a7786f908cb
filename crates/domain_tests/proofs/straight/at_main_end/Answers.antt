use Rattle.std.proofs.Common.{ℕ, ◌-◌, sym, ap, ◌∙◌}
use Rattle.spl_core.specs.Parts.{proc_at}
use Rattle.domain_tests.proofs.Keeping.{after_top}
use Rattle.domain_tests.proofs.straight.at_main_end.Goals as goal

pub at_end-requires-clause-dims : goal.at_end-requires-clause-dims
at_end-requires-clause-dims g c =
    after_top _ _ c.in_ok-start.ensures.value ∙ c.main_dims.ensures.dims ∙ ap (λ (n : ℕ). (proc_at c.args.core.now (n - 1)).dims) (sym c.procs.ensures.count)
