use Rattle.std.proofs.Common.{◌<◌, [], length, refl, arith}
use Rattle.spl_tree.specs.Laws.{procs_in}
use Rattle.spl_types.specs.Checks.{proc_checks}
use Rattle.spl_types.proofs.Firsts.{faulted_exit}
use Rattle.spl_types.proofs.Accepting.{one_proc_more, next_proc_fault}
use Rattle.spl_types.proofs.checked.procedures.Goals as goal

pub returns-in_err-so_far : goal.returns-in_err-so_far
returns-in_err-so_far c =
    let t = c.args.tree.now in
    let lt : c.loop-p.p < length (procs_in t) = omega (arith, c.proc_count-p-end.ensures.count, (c.law_tree.ensures.numbers t c.law_tree.ensures.known).0.procs) in
    faulted_exit _ _ _ (proc_checks (procs_in t) [] 0 (procs_in t)) c.from_residual.ensures.1 (next_proc_fault (procs_in t) c.loop-p.p c.loop-p.points c.loop-p.procs.items c.named_procedure.result _ lt c.in_err-so_far.was c.named_procedure.ensures c.loop-p.invariant)

pub loop-p-preserved : goal.loop-p-preserved
loop-p-preserved c =
    let t = c.args.tree.now in
    let lt : c.loop-p.p < length (procs_in t) = omega (arith, c.proc_count-p-end.ensures.count, (c.law_tree.ensures.numbers t c.law_tree.ensures.known).0.procs) in
    one_proc_more (procs_in t) c.loop-p.p c.loop-p.points c.in_ok-so_far.field-0.points c.loop-p.procs.items c.store.new.procs.items c.named_procedure.result c.in_ok-so_far.field-0 lt c.in_ok-so_far.was c.named_procedure.ensures refl c.in_ok-so_far.field-0.few c.in_ok-store.ensures.stored c.loop-p.invariant
