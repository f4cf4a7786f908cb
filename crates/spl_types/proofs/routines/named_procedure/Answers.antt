use Rattle.std.proofs.Common.{◌<◌, not, take, sym, ap, ◌∙◌, arith, subst}
use Rattle.spl_tree.specs.Program.{ProcMeaning}
use Rattle.spl_tree.specs.Laws.{procs_in}
use Rattle.spl_tree.specs.Meaning.{program_of, names_in, decls_in, stmts_in, proc_over}
use Rattle.spl_types.specs.Checks.{Procedure, scope_of, met_by_end, procedure_of, main_procedure, procedure_checks, is_among}
use Rattle.spl_types.specs.Faults.{AnswersWith}
use Rattle.spl_types.specs.Tables.{proc_names}
use Rattle.spl_types.specs.Walking.{HasMet}
use Rattle.spl_types.specs.Routines.{named_checks}
use Rattle.spl_types.proofs.Firsts.{faulted_exit}
use Rattle.spl_types.proofs.Numbering.{no_proc}
use Rattle.spl_types.proofs.Procedures.{at_proc, length-names, too_many, duplicate, named_rest}
use Rattle.spl_types.proofs.routines.named_procedure.Goals as goal

pub returns-in_err-demand : goal.returns-in_err-demand
returns-in_err-demand c = λ d.
    let t = c.args.tree.now in
    let earlier = proc_names (take c.args.p (procs_in t)) in
    let x = proc_over (names_in t) (decls_in t) t.stmt_items (stmts_in t) c.proc_node.result.0 c.proc_node.result.1 in
    let count = length-names (procs_in t) c.args.p (omega (arith, c.requires.there, (c.law_tree.ensures.numbers t c.law_tree.ensures.known).0.procs)) in
    let P : ProcMeaning → Type 0 = λ y. AnswersWith c.from_residual.result (named_checks (procs_in t) earlier c.args.points y) (λ w. (c.args.p < 256) × HasMet (scope_of (procs_in t) (procedure_of y)) (met_by_end c.args.points (procedure_of y)) w) in
    subst P (sym (c.proc_node.ensures.stands d)) (faulted_exit _ _ _ (named_checks (procs_in t) earlier c.args.points x) c.from_residual.ensures.1 (too_many (procs_in t) earlier c.args.points c.args.p x _ count c.in_err-demand.ensures))

pub is_first-first-requires-clause-own : goal.is_first-first-requires-clause-own
is_first-first-requires-clause-own c = λ d. c.name.ensures ∙ sym (ap (λ (q : ProcMeaning). q.name.name) (c.proc_node.ensures.stands d))

pub returns-in_err-demand-2 : goal.returns-in_err-demand-2
returns-in_err-demand-2 c = λ d.
    let t = c.args.tree.now in
    let earlier = proc_names (take c.args.p (procs_in t)) in
    let x = proc_over (names_in t) (decls_in t) t.stmt_items (stmts_in t) c.proc_node.result.0 c.proc_node.result.1 in
    let count = length-names (procs_in t) c.args.p (omega (arith, c.requires.there, (c.law_tree.ensures.numbers t c.law_tree.ensures.known).0.procs)) in
    let fresh = c.is_first-first.ensures ∙ ap (λ n. not (is_among n earlier)) c.name.ensures in
    let P : ProcMeaning → Type 0 = λ y. AnswersWith c.from_residual-in_err-demand-2.result (named_checks (procs_in t) earlier c.args.points y) (λ w. (c.args.p < 256) × HasMet (scope_of (procs_in t) (procedure_of y)) (met_by_end c.args.points (procedure_of y)) w) in
    subst P (sym (c.proc_node.ensures.stands d)) (faulted_exit _ _ _ (named_checks (procs_in t) earlier c.args.points x) c.from_residual-in_err-demand-2.ensures.1 (duplicate (procs_in t) earlier c.args.points c.args.p x c.is_first-first.result _ count fresh c.in_ok-demand.ensures c.in_err-demand-2.ensures))

pub returns : goal.returns
unfolding program_of
returns c = λ d.
    let t = c.args.tree.now in
    let earlier = proc_names (take c.args.p (procs_in t)) in
    let x = proc_over (names_in t) (decls_in t) t.stmt_items (stmts_in t) c.proc_node.result.0 c.proc_node.result.1 in
    let procs = (c.law_tree.ensures.numbers t c.law_tree.ensures.known).0.procs in
    let count = length-names (procs_in t) c.args.p (omega (arith, c.requires.there, procs)) in
    let fresh = c.is_first-first.ensures ∙ ap (λ n. not (is_among n earlier)) c.name.ensures in
    let own = c.routine_at-routine.ensures.stands ∙ (at_proc (procs_in t) (main_procedure (program_of t)) c.args.p (omega (arith, c.requires.there, procs)) ∙ ap (λ (q : ProcMeaning). procedure_of q) (c.proc_node.ensures.stands no_proc)) in
    let Q : Procedure → Type 0 = λ u. AnswersWith c.procedure.result (procedure_checks (procs_in t) c.args.points u) (λ w. HasMet (scope_of (procs_in t) u) (met_by_end c.args.points u) w) in
    let P : ProcMeaning → Type 0 = λ y. AnswersWith c.procedure.result (named_checks (procs_in t) earlier c.args.points y) (λ w. (c.args.p < 256) × HasMet (scope_of (procs_in t) (procedure_of y)) (met_by_end c.args.points (procedure_of y)) w) in
    subst P (sym (c.proc_node.ensures.stands d)) (named_rest (procs_in t) earlier c.args.points c.args.p x c.is_first-first.result (λ w. HasMet (scope_of (procs_in t) (procedure_of x)) (met_by_end c.args.points (procedure_of x)) w) c.procedure.result count fresh c.in_ok-demand.ensures c.in_ok-demand-2.ensures (subst Q own c.procedure.ensures))
