use Rattle.std.proofs.Common.{ℕ, [], sym, ap, ◌∙◌, arith}
use Rattle.spl_tree.specs.declared.parts.Block.{Block}
use Rattle.spl_tree.specs.declared.parts.MainTree.{MainTree}
use Rattle.spl_tree.specs.Program.{ProcMeaning, BlockTree}
use Rattle.spl_tree.specs.Laws.{procs_in}
use Rattle.spl_tree.specs.Meaning.{program_of, decls_in, decls_over, stmts_in, block_over}
use Rattle.spl_types.specs.Checks.{Procedure, procedure_of, main_procedure}
use Rattle.spl_types.proofs.Numbering.{no_proc}
use Rattle.spl_types.proofs.Procedures.{at_proc, at_main}
use Rattle.spl_types.proofs.routines.routine_at.Goals as goal

pub returns-then-p-proc_count-clause-stands : goal.returns-then-p-proc_count-clause-stands
unfolding program_of
returns-then-p-proc_count-clause-stands c =
    let t = c.args.tree.now in
    let count = (c.law_tree.ensures.numbers t c.law_tree.ensures.known).0.procs in
    sym (at_proc (procs_in t) (main_procedure (program_of t)) c.args.p (omega (arith, count, c.proc_count.ensures.count)) ∙ ap (λ (q : ProcMeaning). procedure_of q) (c.proc_node.ensures.stands no_proc))

pub returns-clause-stands : goal.returns-clause-stands
unfolding program_of
returns-clause-stands c =
    let t = c.args.tree.now in
    let count = (c.law_tree.ensures.numbers t c.law_tree.ensures.known).0.procs in
    let ds = decls_in t in
    let body : Block → BlockTree = λ b. block_over t.stmt_items (stmts_in t) b in
    let R : MainTree → ℕ → Procedure = λ m n. record { inputs = []; outputs = []; locals = decls_over ds m.locals; begin = n; body = body m.body } in
    ap (λ m. R m c.main_begin.result) c.main_tree-main.ensures.found
    ∙ (ap (λ n. R t.main n) c.main_begin.ensures.found
    ∙ sym (at_main (procs_in t) (main_procedure (program_of t)) c.args.p (omega (arith, count, c.proc_count.ensures.count, c.requires, c.if-p-proc_count.false))))
