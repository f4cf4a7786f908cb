use Rattle.std.proofs.Common.{◌<◌, length, arith}
use Rattle.spl_tree.specs.Meaning.{decls_in, decls_over}
use Rattle.spl_types.specs.Checks.{decl_checks}
use Rattle.spl_types.proofs.Firsts.{faulted_exit}
use Rattle.spl_types.proofs.Declaring.{no_decls, one_decl_more, next_decl_fault, all_decls_met}
use Rattle.spl_types.proofs.decls.declare.Goals as goal

pub loop-i-init : goal.loop-i-init
loop-i-init c = no_decls c.args.names.now (decls_over (decls_in c.args.tree.now) c.args.list)

pub returns-in_err-next_decl : goal.returns-in_err-next_decl
returns-in_err-next_decl c =
    let ds = decls_over (decls_in c.args.tree.now) c.args.list in
    let lt : c.loop-i.i < length ds = omega (arith, c.decl_count-i-end.ensures.count) in
    faulted_exit _ _ _ (decl_checks c.args.names.now ds) c.from_residual.ensures.1 (next_decl_fault c.args.names.now ds c.loop-i.i c.loop-i.names c.next_decl.new.names c.next_decl.result _ lt c.in_err-next_decl.was c.next_decl.ensures c.loop-i.invariant)

pub loop-i-preserved : goal.loop-i-preserved
loop-i-preserved c =
    let ds = decls_over (decls_in c.args.tree.now) c.args.list in
    let lt : c.loop-i.i < length ds = omega (arith, c.decl_count-i-end.ensures.count) in
    one_decl_more c.args.names.now ds c.loop-i.i c.loop-i.names c.next_decl.new.names c.next_decl.result _ lt c.in_ok-next_decl.was c.next_decl.ensures c.loop-i.invariant

pub returns : goal.returns
returns c = all_decls_met c.args.names.now (decls_over (decls_in c.args.tree.now) c.args.list) c.loop-i.i c.loop-i.names (omega (arith, c.decl_count-i-end.ensures.count, c.loop-i-test.false)) c.loop-i.invariant
