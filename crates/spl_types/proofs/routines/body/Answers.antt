use Rattle.std.proofs.Common.{◌+◌, [], ◌∷◌}
use Rattle.spl_tree.specs.Meaning.{stmts_in, block_over}
use Rattle.spl_types.specs.Checks.{met_before, with_point, met_by, point_check, block_checks}
use Rattle.spl_types.specs.Walking.{scope_in, HasMet}
use Rattle.spl_types.specs.Routines.{body_checks}
use Rattle.spl_types.proofs.Firsts.{faulted_exit, faulted_first, faulted_then, kept_append, fault_of, kept_of}
use Rattle.spl_types.proofs.Waiting.{no_memory}
use Rattle.spl_types.proofs.routines.body.Goals as goal

pub returns-in_err-walk : goal.returns-in_err-walk
returns-in_err-walk c =
    let t = c.args.scope.now.tree.now in
    let whole = body_checks (scope_in c.args.scope.now) c.args.points c.args.begin (block_over t.stmt_items (stmts_in t) c.args.stmts) in
    faulted_exit _ _ _ whole c.from_residual.ensures.1 (no_memory whole _ c.in_err-walk.ensures.fault)

pub returns-in_err-meet_point : goal.returns-in_err-meet_point
returns-in_err-meet_point c =
    let s = scope_in c.args.scope.now in
    let t = c.args.scope.now.tree.now in
    let b = block_over t.stmt_items (stmts_in t) c.args.stmts in
    let m = met_before c.args.points in
    let entry = point_check m c.args.begin ∷ [] in
    let fault = fault_of c.meet_point.result entry (λ _. HasMet s (with_point m) c.meet_point.new.walk) _ c.in_err-meet_point.was (c.meet_point.ensures s m c.in_ok-walk.ensures.met) in
    faulted_exit _ _ _ (body_checks s c.args.points c.args.begin b) c.from_residual-in_err-meet_point.ensures.1 (faulted_first entry (block_checks s (with_point m) (c.args.begin + 5) b) _ fault)

pub returns-in_err-block : goal.returns-in_err-block
returns-in_err-block c =
    let s = scope_in c.args.scope.now in
    let t = c.args.scope.now.tree.now in
    let b = block_over t.stmt_items (stmts_in t) c.args.stmts in
    let m = met_before c.args.points in
    let entry = point_check m c.args.begin ∷ [] in
    let rest = block_checks s (with_point m) (c.args.begin + 5) b in
    let first = kept_of c.meet_point.result entry (λ _. HasMet s (with_point m) c.meet_point.new.walk) _ c.in_ok-meet_point.was (c.meet_point.ensures s m c.in_ok-walk.ensures.met) in
    let fault = fault_of c.block.result rest (λ _. HasMet s (met_by (with_point m) b) c.block.new.walk) _ c.in_err-block.was (c.block.ensures (with_point m) first.1) in
    faulted_exit _ _ _ (body_checks s c.args.points c.args.begin b) c.from_residual-in_err-block.ensures.1 (faulted_then entry rest _ first.0 fault)

pub returns : goal.returns
returns c =
    let s = scope_in c.args.scope.now in
    let t = c.args.scope.now.tree.now in
    let b = block_over t.stmt_items (stmts_in t) c.args.stmts in
    let m = met_before c.args.points in
    let entry = point_check m c.args.begin ∷ [] in
    let rest = block_checks s (with_point m) (c.args.begin + 5) b in
    let first = kept_of c.meet_point.result entry (λ _. HasMet s (with_point m) c.meet_point.new.walk) _ c.in_ok-meet_point.was (c.meet_point.ensures s m c.in_ok-walk.ensures.met) in
    let last = kept_of c.block.result rest (λ _. HasMet s (met_by (with_point m) b) c.block.new.walk) _ c.in_ok-block.was (c.block.ensures (with_point m) first.1) in
    (kept_append entry rest first.0 last.0, last.1)
