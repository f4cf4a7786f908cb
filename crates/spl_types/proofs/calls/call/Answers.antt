use Rattle.std.proofs.Common.{[], ◌++◌}
use Rattle.spl_tree.specs.Meaning.{name_of, names_in, named_in, names_over}
use Rattle.spl_types.specs.Checks.{targets_checks, call_checks, with_targets, plain_names}
use Rattle.spl_types.specs.Walking.{scope_in, HasMet}
use Rattle.spl_types.proofs.Firsts.{faulted_exit, faulted_first, fault_of, kept_of, then_answers}
use Rattle.spl_types.proofs.calls.call.Goals as goal

pub returns-in_err-targets : goal.returns-in_err-targets
returns-in_err-targets c = λ m g.
    let s = c.args.scope.now in
    let t = s.tree.now in
    let x = name_of (names_in t) c.args.called in
    let targets = names_over (named_in t) c.args.list in
    let args = names_over (named_in t) c.args.args in
    let first = targets_checks (scope_in s) m.targets [] targets in
    let rest = call_checks (scope_in s) targets x args c.args.at in
    faulted_exit _ _ _ (first ++ rest) c.from_residual.ensures.1 (faulted_first first rest _ (fault_of c.targets.result first (λ _. HasMet (scope_in s) (with_targets m (plain_names targets)) c.targets.new.walk) _ c.in_err-targets.was (c.targets.ensures m g)))

pub returns : goal.returns
returns c = λ m g.
    let s = c.args.scope.now in
    let t = s.tree.now in
    let x = name_of (names_in t) c.args.called in
    let targets = names_over (named_in t) c.args.list in
    let args = names_over (named_in t) c.args.args in
    let first = targets_checks (scope_in s) m.targets [] targets in
    let rest = call_checks (scope_in s) targets x args c.args.at in
    let P = HasMet (scope_in s) (with_targets m (plain_names targets)) c.targets.new.walk in
    then_answers c.called_procedure.result first rest P (kept_of c.targets.result first (λ _. P) _ c.in_ok-targets.was (c.targets.ensures m g)) c.called_procedure.ensures
