use Rattle.std.proofs.Common.{[], ◌++◌, length, ap, arith, subst, length-append}
use Rattle.std.proofs.lemmas.List.{length-map}
use Rattle.spl_tree.specs.Program.{Declared}
use Rattle.spl_tree.specs.Laws.{procs_in}
use Rattle.spl_types.specs.Checks.{Scope, decl_checks, all_decls, scope_of, met_by_end, procedure_checks}
use Rattle.spl_types.specs.Faults.{Kept, Faulted}
use Rattle.spl_types.specs.Walking.{HasMet}
use Rattle.spl_types.specs.Routines.{routine_in, body_checks}
use Rattle.spl_types.proofs.Firsts.{faulted_exit, faulted_first, faulted_then, kept_append}
use Rattle.spl_types.proofs.Procedures.{few_decls, scope_same}
use Rattle.spl_types.proofs.routines.procedure.Goals as goal

pub returns-in_err-declared : goal.returns-in_err-declared
returns-in_err-declared c =
    let t = c.args.tree.now in
    let u = routine_in t c.args.routine in
    faulted_exit _ _ _ (procedure_checks (procs_in t) c.args.points u) c.from_residual.ensures.1 (faulted_first (decl_checks [] (all_decls u)) (body_checks (scope_of (procs_in t) u) c.args.points u.begin u.body) _ c.in_err-declared.ensures)

pub body-requires-clause-declared : goal.body-requires-clause-declared
body-requires-clause-declared c =
    let u = routine_in c.args.tree.now c.args.routine in
    omega (arith, ap length c.in_ok-declared.ensures.1, length-map (all_decls u) (λ (d : Declared). d.name.name), few_decls [] (all_decls u) (omega arith) c.in_ok-declared.ensures.0)

pub body-requires-clause-inputs : goal.body-requires-clause-inputs
body-requires-clause-inputs c =
    let u = routine_in c.args.tree.now c.args.routine in
    omega (arith, c.decl_count.ensures.count, ap length c.in_ok-declared.ensures.1, length-map (all_decls u) (λ (d : Declared). d.name.name), length-append u.inputs (u.outputs ++ u.locals))

pub returns-in_err-walk : goal.returns-in_err-walk
returns-in_err-walk c =
    let t = c.args.tree.now in
    let u = routine_in t c.args.routine in
    let same = scope_same (procs_in t) u c.in_ok-declared.declared c.decl_count.result c.in_ok-declared.ensures.1 c.decl_count.ensures.count in
    let P : Scope → Type 0 = λ s. Faulted (body_checks s c.args.points u.begin u.body) c.in_err-walk.field-0.0 in
    faulted_exit _ _ _ (procedure_checks (procs_in t) c.args.points u) c.from_residual-in_err-walk.ensures.1 (faulted_then (decl_checks [] (all_decls u)) (body_checks (scope_of (procs_in t) u) c.args.points u.begin u.body) _ c.in_ok-declared.ensures.0 (subst P same c.in_err-walk.ensures))

pub returns : goal.returns
returns c =
    let t = c.args.tree.now in
    let u = routine_in t c.args.routine in
    let same = scope_same (procs_in t) u c.in_ok-declared.declared c.decl_count.result c.in_ok-declared.ensures.1 c.decl_count.ensures.count in
    let P : Scope → Type 0 = λ s. Kept (body_checks s c.args.points u.begin u.body) × HasMet s (met_by_end c.args.points u) c.in_ok-walk.walk in
    let q = subst P same c.in_ok-walk.ensures in
    (kept_append (decl_checks [] (all_decls u)) (body_checks (scope_of (procs_in t) u) c.args.points u.begin u.body) c.in_ok-declared.ensures.0 q.0, q.1)
