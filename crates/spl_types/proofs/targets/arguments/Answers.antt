use Rattle.std.proofs.Common.{◌∷◌, [], sym, subst, arith}
use Rattle.spl_tree.specs.Program.{Named}
use Rattle.spl_tree.specs.Meaning.{named_in, names_over}
use Rattle.spl_types.specs.Checks.{argument_checks}
use Rattle.spl_types.specs.Faults.{Kept, Faulted}
use Rattle.spl_types.proofs.Firsts.{faulted_exit}
use Rattle.spl_types.proofs.Calling.{no_named, argument_check, arguments_more, arguments_fault}
use Rattle.spl_types.proofs.targets.arguments.Goals as goal

pub returns-in_err-known : goal.returns-in_err-known
returns-in_err-known c =
    let names = c.args.scope.now.declared in
    let xs = names_over (named_in c.args.scope.now.tree.now) c.args.list in
    let F : Named → Type 0 = λ x. Faulted (argument_check names x ∷ []) c.in_err-known.field-0.0 in
    faulted_exit _ _ _ (argument_checks names xs) c.from_residual.ensures.1 (arguments_fault names xs c.loop-i.i _ (omega (arith, c.name_count-i-end.ensures)) c.loop-i.invariant (subst F (sym (c.name_node-at.ensures.stands no_named)) c.in_err-known.ensures))

pub loop-i-preserved : goal.loop-i-preserved
loop-i-preserved c =
    let names = c.args.scope.now.declared in
    let xs = names_over (named_in c.args.scope.now.tree.now) c.args.list in
    let K : Named → Type 0 = λ x. Kept (argument_check names x ∷ []) in
    arguments_more names xs c.loop-i.i (omega (arith, c.name_count-i-end.ensures)) c.loop-i.invariant (subst K (sym (c.name_node-at.ensures.stands no_named)) c.in_ok-known.ensures)
