use Rattle.std.proofs.Common.{◌<◌, [], length, List, ℕ, sym, subst, arith}
use Rattle.spl_tree.specs.Meaning.{named_in, names_over}
use Rattle.spl_types.specs.Checks.{targets_checks}
use Rattle.spl_types.specs.Walking.{scope_in}
use Rattle.spl_types.proofs.Firsts.{faulted_exit}
use Rattle.spl_types.proofs.Calling.{MetSoFar, none_so_far, one_more, next_fault, all_targets}
use Rattle.spl_types.proofs.targets.targets.Goals as goal

pub loop-i-init : goal.loop-i-init
loop-i-init c = λ m g.
    let s = scope_in c.args.scope.now in
    let xs = names_over (named_in c.args.scope.now.tree.now) c.args.list in
    let P : List (List ℕ) → Type 0 = λ l. MetSoFar s m xs 0 l c.args.walk.now in
    subst P (sym c.new-listed.ensures) (none_so_far s m xs c.args.walk.now g)

pub returns-in_err-next_target : goal.returns-in_err-next_target
returns-in_err-next_target c = λ m g.
    let s = scope_in c.args.scope.now in
    let xs = names_over (named_in c.args.scope.now.tree.now) c.args.list in
    let lt : c.loop-i.i < length xs = omega (arith, c.name_count-i-end.ensures) in
    faulted_exit _ _ _ (targets_checks s m.targets [] xs) c.from_residual.ensures.1 (next_fault s m xs c.loop-i.i c.loop-i.listed c.next_target.new.listed c.loop-i.walk c.next_target.new.walk c.next_target.result _ lt c.in_err-next_target.was c.next_target.ensures (c.loop-i.invariant m g))

pub loop-i-preserved : goal.loop-i-preserved
loop-i-preserved c = λ m g.
    let s = scope_in c.args.scope.now in
    let xs = names_over (named_in c.args.scope.now.tree.now) c.args.list in
    let lt : c.loop-i.i < length xs = omega (arith, c.name_count-i-end.ensures) in
    one_more s m xs c.loop-i.i c.loop-i.listed c.next_target.new.listed c.loop-i.walk c.next_target.new.walk c.next_target.result _ lt c.in_ok-next_target.was c.next_target.ensures (c.loop-i.invariant m g)

pub returns : goal.returns
returns c = λ m g. all_targets (scope_in c.args.scope.now) m (names_over (named_in c.args.scope.now.tree.now) c.args.list) c.loop-i.i c.loop-i.listed c.loop-i.walk (omega (arith, c.name_count-i-end.ensures, c.loop-i-test.false)) (c.loop-i.invariant m g)
