use Rattle.std.proofs.Common.{◌-◌, ◌<◌, length, ap, arith}
use Rattle.spl_core.specs.declared.parts.Proc.{Proc}
use Rattle.spl_core.specs.Parts.{no_proc}
use Rattle.domain_tests.proofs.cores.main_dims.Goals as goal

pub returns-clause-small : goal.returns-clause-small
returns-clause-small c =
    let core = c.args.core.now in
    let last : c.procs.result - 1 < length core.procs = omega (arith, c.procs.ensures.count, c.procs.ensures.known.main) in
    omega (arith, ap (λ (p : Proc). p.dims) c.proc_at.ensures.found, (c.procs.ensures.known.procs (c.procs.result - 1) no_proc last).few)
