use Rattle.std.proofs.Common.{[], ◌++◌}
use Rattle.spl_tree.specs.Meaning.{decls_in, decls_over}
use Rattle.spl_types.specs.Checks.{decl_checks}
use Rattle.spl_types.proofs.Firsts.{faulted_exit}
use Rattle.spl_types.proofs.Procedures.{inputs_fault, outputs_fault, locals_fault, all_kept}
use Rattle.spl_types.proofs.routines.declarations.Goals as goal

pub returns-in_err-declare : goal.returns-in_err-declare
returns-in_err-declare c =
    let ds = decls_in c.args.tree.now in
    let ins = decls_over ds c.args.routine.inputs in
    let outs = decls_over ds c.args.routine.outputs in
    let locs = decls_over ds c.args.routine.locals in
    faulted_exit _ _ _ (decl_checks [] (ins ++ (outs ++ locs))) c.from_residual.ensures.1 (inputs_fault ins outs locs c.new-names.result _ c.new-names.ensures c.in_err-declare.ensures)

pub returns-in_err-declare-2 : goal.returns-in_err-declare-2
returns-in_err-declare-2 c =
    let ds = decls_in c.args.tree.now in
    let ins = decls_over ds c.args.routine.inputs in
    let outs = decls_over ds c.args.routine.outputs in
    let locs = decls_over ds c.args.routine.locals in
    faulted_exit _ _ _ (decl_checks [] (ins ++ (outs ++ locs))) c.from_residual-in_err-declare-2.ensures.1 (outputs_fault ins outs locs c.new-names.result c.declare.new.names _ c.new-names.ensures c.in_ok-declare.ensures c.in_err-declare-2.ensures)

pub returns-in_err-declare-3 : goal.returns-in_err-declare-3
returns-in_err-declare-3 c =
    let ds = decls_in c.args.tree.now in
    let ins = decls_over ds c.args.routine.inputs in
    let outs = decls_over ds c.args.routine.outputs in
    let locs = decls_over ds c.args.routine.locals in
    faulted_exit _ _ _ (decl_checks [] (ins ++ (outs ++ locs))) c.from_residual-in_err-declare-3.ensures.1 (locals_fault ins outs locs c.new-names.result c.declare.new.names c.declare-2.new.names _ c.new-names.ensures c.in_ok-declare.ensures c.in_ok-declare-2.ensures c.in_err-declare-3.ensures)

pub returns : goal.returns
returns c =
    let ds = decls_in c.args.tree.now in
    let ins = decls_over ds c.args.routine.inputs in
    let outs = decls_over ds c.args.routine.outputs in
    let locs = decls_over ds c.args.routine.locals in
    all_kept ins outs locs c.new-names.result c.declare.new.names c.declare-2.new.names c.declare-3.new.names c.new-names.ensures c.in_ok-declare.ensures c.in_ok-declare-2.ensures c.in_ok-declare-3.ensures
