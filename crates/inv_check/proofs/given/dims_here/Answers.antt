use Rattle.std.proofs.Common.{ap, sym, ◌∙◌}
use Rattle.spl_core.specs.declared.parts.Proc.{Proc}
use Rattle.spl_core.specs.Parts.{proc_at}
use Rattle.equations.proofs.Bringing.{proc-dims}
use Rattle.inv_check.proofs.given.dims_here.Goals as goal

pub returns-clause-dims : goal.returns-clause-dims
returns-clause-dims c =
    ap (λ (q : Proc). q.dims) (c.proc_at.ensures.found ∙ ap (proc_at c.args.core.now) c.owner.ensures.found) ∙ sym (proc-dims c.args.core.now c.args.p)
