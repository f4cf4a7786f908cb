use Rattle.std.proofs.Common.{sym, ap, ◌∙◌, arith}
use Rattle.spl_tree.specs.Laws.{procs_in}
use Rattle.spl_tree.specs.Meaning.{name_of, names_in, named_in, names_over}
use Rattle.spl_types.specs.Checks.{call_checks}
use Rattle.spl_types.specs.Tables.{number_in}
use Rattle.spl_types.specs.Walking.{scope_in}
use Rattle.spl_types.proofs.Numbering.{no_proc}
use Rattle.spl_types.proofs.Firsts.{faulted_exit}
use Rattle.spl_types.proofs.Lookups.{proc_found, proc_missing, call_unknown, call_fault, call_rest}
use Rattle.spl_types.proofs.calls.called_procedure.Goals as goal

pub has_counts-counts-requires-clause-there : goal.has_counts-counts-requires-clause-there
has_counts-counts-requires-clause-there c =
    let s = c.args.scope.now in
    let t = s.tree.now in
    let x = name_of (names_in t) c.args.called in
    let at = ap (λ y. number_in y s.procs.now) (sym c.name.ensures) ∙ sym c.in-Some.ensures in
    let found = proc_found (procs_in t) s.procs.now x c.in-Some.number no_proc c.requires.procs at in
    omega (arith, found.0, (c.law_tree.ensures.numbers t c.law_tree.ensures.known).0.procs)

pub returns-in-None : goal.returns-in-None
returns-in-None c =
    let s = c.args.scope.now in
    let t = s.tree.now in
    let x = name_of (names_in t) c.args.called in
    let at = ap (λ y. number_in y s.procs.now) (sym c.name.ensures) ∙ sym c.in-None.ensures in
    call_unknown (scope_in s) (names_over (named_in t) c.args.list) x (names_over (named_in t) c.args.args) c.args.at (proc_missing (procs_in t) s.procs.now x c.requires.procs at)

pub returns-in_err-demand : goal.returns-in_err-demand
returns-in_err-demand c =
    let s = c.args.scope.now in
    let t = s.tree.now in
    let x = name_of (names_in t) c.args.called in
    let targets = names_over (named_in t) c.args.list in
    let args = names_over (named_in t) c.args.args in
    let at = ap (λ y. number_in y s.procs.now) (sym c.name.ensures) ∙ sym c.in-Some.ensures in
    let found = proc_found (procs_in t) s.procs.now x c.in-Some.number no_proc c.requires.procs at in
    faulted_exit _ _ _ (call_checks (scope_in s) targets x args c.args.at) c.from_residual.ensures.1 (call_fault (scope_in s) targets x args c.args.at _ c.has_counts-counts.result _ found.1 (c.has_counts-counts.ensures no_proc) c.in_err-demand.ensures)

pub returns : goal.returns
returns c =
    let s = c.args.scope.now in
    let t = s.tree.now in
    let x = name_of (names_in t) c.args.called in
    let targets = names_over (named_in t) c.args.list in
    let args = names_over (named_in t) c.args.args in
    let at = ap (λ y. number_in y s.procs.now) (sym c.name.ensures) ∙ sym c.in-Some.ensures in
    let found = proc_found (procs_in t) s.procs.now x c.in-Some.number no_proc c.requires.procs at in
    call_rest (scope_in s) targets x args c.args.at _ c.has_counts-counts.result c.arguments.result found.1 (c.has_counts-counts.ensures no_proc) c.in_ok-demand.ensures c.arguments.ensures
