use Rattle.std.proofs.Common.{sym, ◌∙◌, refl}
use Rattle.spl_tree.specs.Laws.{procs_in}
use Rattle.spl_tree.specs.Meaning.{program_of}
use Rattle.spl_types.specs.Checks.{main_procedure}
use Rattle.spl_types.specs.Routines.{routine_in}
use Rattle.spl_types.proofs.Procedures.{at_main}
use Rattle.spl_types.proofs.Accepting.{fault_of_procs, fault_of_main, exit_fault, all_kept, all_stored, accepted}
use Rattle.spl_types.proofs.checked.check.Goals as goal

pub returns-in_err-points-clause-broken : goal.returns-in_err-points-clause-broken
unfolding program_of
returns-in_err-points-clause-broken c =
    let p = program_of c.args.tree.now in
    exit_fault p c.from_residual.result _ c.from_residual.ensures.1 (fault_of_procs p _ c.in_err-points.ensures)

pub returns-in_err-_points-clause-broken : goal.returns-in_err-_points-clause-broken
unfolding program_of
returns-in_err-_points-clause-broken c =
    let t = c.args.tree.now in
    let p = program_of t in
    let count = c.proc_count.ensures.count ∙ sym (c.law_tree.ensures.numbers t c.law_tree.ensures.known).0.procs in
    let main = c.routine_at-main.ensures.stands ∙ at_main (procs_in t) (main_procedure p) c.proc_count.result count in
    exit_fault p c.from_residual-in_err-_points.result _ c.from_residual-in_err-_points.ensures.1 (fault_of_main p c.in_ok-points.points (routine_in t c.routine_at-main.result) _ c.in_ok-points.ensures.1.points main c.in_ok-points.ensures.0 c.in_err-_points.ensures)

pub invariant_of-result : goal.invariant_of-result
unfolding program_of
invariant_of-result c =
    let t = c.args.tree.now in
    let p = program_of t in
    let count = c.proc_count.ensures.count ∙ sym (c.law_tree.ensures.numbers t c.law_tree.ensures.known).0.procs in
    let main = c.routine_at-main.ensures.stands ∙ at_main (procs_in t) (main_procedure p) c.proc_count.result count in
    let w = c.in_ok-_points.field-0 in
    let all = all_kept p c.in_ok-points.points (routine_in t c.routine_at-main.result) c.procedures.new.procs.items w c.in_ok-points.ensures.1.points main c.in_ok-points.ensures.0 c.in_ok-_points.ensures in
    let stored = all_stored p c.procedures.new.procs.items c.store.new.procs.items w all c.in_ok-points.ensures.1.copies c.in_ok-store.ensures.stored in
    record { tree = c.law_tree.ensures.known; accepted = accepted p c.procedures.new.procs.items c.store.new.procs.items w all c.in_ok-points.ensures.1.few_procs stored; copies = stored }

pub returns-clause-accepted : goal.returns-clause-accepted
unfolding program_of
returns-clause-accepted c =
    let t = c.args.tree.now in
    let p = program_of t in
    let count = c.proc_count.ensures.count ∙ sym (c.law_tree.ensures.numbers t c.law_tree.ensures.known).0.procs in
    let main = c.routine_at-main.ensures.stands ∙ at_main (procs_in t) (main_procedure p) c.proc_count.result count in
    let all = all_kept p c.in_ok-points.points (routine_in t c.routine_at-main.result) c.procedures.new.procs.items c.in_ok-_points.field-0 c.in_ok-points.ensures.1.points main c.in_ok-points.ensures.0 c.in_ok-_points.ensures in
    (refl, all.unbroken)
