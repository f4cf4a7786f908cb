use Rattle.std.proofs.Common.{◌<◌, [], ◌∷◌, ◌++◌, Option, ap, sym, subst, arith, length}
use Rattle.spl_tree.specs.declared.parts.StmtId.{StmtId}
use Rattle.spl_tree.specs.declared.parts.Block.{Block}
use Rattle.spl_tree.specs.declared.parts.Stmt.{Stmt}
use Rattle.spl_tree.specs.declared.parts.Stmt.TheVariants.{If}
use Rattle.spl_tree.specs.declared.parts.StmtAt.{StmtAt}
use Rattle.spl_tree.specs.Program.{StmtTree, while_do, places_of}
use Rattle.spl_tree.specs.Meaning.{span_of, exprs_in, expr_at, stmts_in, ground_in, stmt_over, block_over, second_over, if_over}
use Rattle.spl_types.specs.Checks.{a_condition, expr_checks, point_check, with_point, met_in, met_by, stmt_checks, block_checks}
use Rattle.spl_types.specs.Faults.{Kept, AnswersWith}
use Rattle.spl_types.specs.Walking.{scope_in, HasMet}
use Rattle.spl_types.proofs.Firsts.{faulted_exit, fault_of, kept_of}
use Rattle.spl_types.proofs.Blocks.{item_below, no_id, stmt_bound_le, stmt_higher, places_over, stmt_met, start_fault, stmt_fault}
use Rattle.spl_types.proofs.Branches.{point_fault, point_after, stays, if_fault, first_fault, after_first, after_second, while_fault, after_body}
use Rattle.spl_types.proofs.stmts.+walking.Goals as goal

pub block-statement-requires : goal.block-statement-requires
block-statement-requires t c =
    let ids = span_of c.args.scope.now.tree.now.stmt_items c.args.stmts.first c.args.stmts.count in
    let lt : c.loop-i.i < length ids = omega (arith, c.stmt_count-i-end.ensures) in
    let below = item_below ids c.loop-i.i no_id lt in
    let same = ap (λ (s : StmtId). s.0) (c.stmt_of.ensures.stands no_id) in
    (omega (arith, below, same, c.decreases), (c.requires.procs, c.stmt_of.ensures.there))

pub statement-within-requires : goal.statement-within-requires
statement-within-requires t c =
    let tree = c.args.scope.now.tree.now in
    let fits = c.stmt_node-stmt.ensures.fits in
    (omega (arith, stmt_bound_le tree c.args.s.0 c.stmt_node-stmt.result.0 fits, c.decreases), (c.requires.procs, stmt_higher tree c.args.s.0 (length tree.stmts) c.stmt_node-stmt.result.0 (omega (arith, c.requires.there)) fits))

pub block-returns-in_err-meet_point : goal.block-returns-in_err-meet_point
block-returns-in_err-meet_point t c = λ m g.
    let s = scope_in c.args.scope.now in
    let tree = c.args.scope.now.tree.now in
    let ids = span_of tree.stmt_items c.args.stmts.first c.args.stmts.count in
    let fault = fault_of c.meet_point.result (point_check m c.args.start ∷ []) (λ _. HasMet s (with_point m) c.meet_point.new.walk) _ c.in_err-meet_point.was (c.meet_point.ensures s m g) in
    faulted_exit _ _ _ (block_checks s m c.args.start (block_over tree.stmt_items (stmts_in tree) c.args.stmts)) c.from_residual.ensures.1 (start_fault s m c.args.start (stmts_in tree) ids _ fault)

pub block-loop-i-init : goal.block-loop-i-init
block-loop-i-init t c = λ m g.
    let s = scope_in c.args.scope.now in
    let q = kept_of c.meet_point.result (point_check m c.args.start ∷ []) (λ _. HasMet s (with_point m) c.meet_point.new.walk) _ c.in_ok-meet_point.was (c.meet_point.ensures s m g) in
    record { kept = q.0; met = q.1 }

pub block-returns-in_err-statement : goal.block-returns-in_err-statement
block-returns-in_err-statement t c = λ m g.
    let s = scope_in c.args.scope.now in
    let tree = c.args.scope.now.tree.now in
    let ids = span_of tree.stmt_items c.args.stmts.first c.args.stmts.count in
    let lt : c.loop-i.i < length ids = omega (arith, c.stmt_count-i-end.ensures) in
    faulted_exit _ _ _ (block_checks s m c.args.start (block_over tree.stmt_items (stmts_in tree) c.args.stmts)) c.from_residual-in_err-statement.ensures.1 (stmt_fault s m c.args.start (stmts_in tree) ids c.loop-i.i c.stmt_of.result c.loop-i.walk c.statement.new.walk c.statement.result _ lt (c.stmt_of.ensures.stands no_id) c.in_err-statement.was c.statement.ensures (c.loop-i.invariant m g))

pub block-loop-i-preserved : goal.block-loop-i-preserved
block-loop-i-preserved t c = λ m g.
    let s = scope_in c.args.scope.now in
    let tree = c.args.scope.now.tree.now in
    let ids = span_of tree.stmt_items c.args.stmts.first c.args.stmts.count in
    let lt : c.loop-i.i < length ids = omega (arith, c.stmt_count-i-end.ensures) in
    stmt_met s m c.args.start (stmts_in tree) ids c.loop-i.i c.stmt_of.result c.loop-i.walk c.statement.new.walk c.statement.result _ lt (c.stmt_of.ensures.stands no_id) c.in_ok-statement.was c.statement.ensures (c.loop-i.invariant m g)

pub statement-returns-in_err-within : goal.statement-returns-in_err-within
statement-returns-in_err-within t c = λ m g.
    let s = scope_in c.args.scope.now in
    let tree = c.args.scope.now.tree.now in
    let x = stmt_over (ground_in tree) (stmts_in tree) c.stmt_node-stmt.result.0 c.stmt_node-stmt.result.1 in
    let P : StmtTree → Type 0 = λ y. AnswersWith c.from_residual.result (stmt_checks s m y ++ point_check (met_in m y) (places_of y).end ∷ []) (λ _. HasMet s (with_point (met_in m y)) c.within.new.walk) in
    subst P (sym c.stmt_node-stmt.ensures.stands) (faulted_exit _ _ _ (stmt_checks s m x ++ point_check (met_in m x) (places_of x).end ∷ []) c.from_residual.ensures.1 (point_fault s m x c.args.walk.now c.within.new.walk c.within.result _ c.in_err-within.was c.within.ensures g))

pub statement-returns : goal.statement-returns
statement-returns t c = λ m g.
    let s = scope_in c.args.scope.now in
    let tree = c.args.scope.now.tree.now in
    let at = c.stmt_node-stmt.result.1 in
    let x = stmt_over (ground_in tree) (stmts_in tree) c.stmt_node-stmt.result.0 at in
    let P : StmtTree → Type 0 = λ y. AnswersWith c.meet_point.result (stmt_checks s m y ++ point_check (met_in m y) (places_of y).end ∷ []) (λ _. HasMet s (with_point (met_in m y)) c.meet_point.new.walk) in
    subst P (sym c.stmt_node-stmt.ensures.stands) (point_after s m x at.end c.args.walk.now c.within.new.walk c.meet_point.new.walk c.within.result c.meet_point.result _ c.in_ok-within.was c.within.ensures (c.meet_point.ensures s) (ap (λ (p : StmtAt). p.end) (places_over (ground_in tree) (stmts_in tree) c.stmt_node-stmt.result.0 at)) g)

pub within-returns-in-Assume : goal.within-returns-in-Assume
within-returns-in-Assume t c = λ m g.
    let s = scope_in c.args.scope.now in
    let tree = c.args.scope.now.tree.now in
    let P : Stmt → Type 0 = λ x. AnswersWith c.condition.result (stmt_checks s m (stmt_over (ground_in tree) (stmts_in tree) x c.args.at)) (λ _. HasMet s (met_in m (stmt_over (ground_in tree) (stmts_in tree) x c.args.at)) c.args.walk.now) in
    subst P (sym c.in-Assume.is) (stays c.condition.result (expr_checks s.declared a_condition (expr_at (exprs_in tree) c.in-Assume.e)) (HasMet s m c.args.walk.now) g c.condition.ensures)

pub within-returns-in-Assign : goal.within-returns-in-Assign
within-returns-in-Assign t c = λ m g.
    let s = scope_in c.args.scope.now in
    let tree = c.args.scope.now.tree.now in
    let P : Stmt → Type 0 = λ x. AnswersWith c.assign.result (stmt_checks s m (stmt_over (ground_in tree) (stmts_in tree) x c.args.at)) (λ _. HasMet s (met_in m (stmt_over (ground_in tree) (stmts_in tree) x c.args.at)) c.assign.new.walk) in
    subst P (sym c.in-Assign.is) (c.assign.ensures m g)

pub within-returns-in-Call : goal.within-returns-in-Call
within-returns-in-Call t c = λ m g.
    let s = scope_in c.args.scope.now in
    let tree = c.args.scope.now.tree.now in
    let P : Stmt → Type 0 = λ x. AnswersWith c.call.result (stmt_checks s m (stmt_over (ground_in tree) (stmts_in tree) x c.args.at)) (λ _. HasMet s (met_in m (stmt_over (ground_in tree) (stmts_in tree) x c.args.at)) c.call.new.walk) in
    subst P (sym c.in-Call.is) (c.call.ensures m g)

pub within-returns-in_err-condition-in-If : goal.within-returns-in_err-condition-in-If
within-returns-in_err-condition-in-If t c = λ m g.
    let s = scope_in c.args.scope.now in
    let tree = c.args.scope.now.tree.now in
    let e = expr_at (exprs_in tree) c.in-If.e in
    let a = block_over tree.stmt_items (stmts_in tree) c.in-If.first in
    let b = second_over tree.stmt_items (stmts_in tree) c.in-If.second in
    let P : Stmt → Type 0 = λ x. AnswersWith c.from_residual.result (stmt_checks s m (stmt_over (ground_in tree) (stmts_in tree) x c.args.at)) (λ _. HasMet s (met_in m (stmt_over (ground_in tree) (stmts_in tree) x c.args.at)) c.args.walk.now) in
    subst P (sym c.in-If.is) (faulted_exit _ _ _ (stmt_checks s m (if_over e a b c.args.at)) c.from_residual.ensures.1 (if_fault s m e a b c.args.at _ c.in_err-condition-in-If.ensures))

pub within-returns-in_err-block-in-If : goal.within-returns-in_err-block-in-If
within-returns-in_err-block-in-If t c = λ m g.
    let s = scope_in c.args.scope.now in
    let tree = c.args.scope.now.tree.now in
    let e = expr_at (exprs_in tree) c.in-If.e in
    let a = block_over tree.stmt_items (stmts_in tree) c.in-If.first in
    let b = second_over tree.stmt_items (stmts_in tree) c.in-If.second in
    let fault = fault_of c.block.result (block_checks s m c.args.at.first_block a) (λ _. HasMet s (met_by m a) c.block.new.walk) _ c.in_err-block-in-If.was (c.block.ensures m g) in
    let P : Stmt → Type 0 = λ x. AnswersWith c.from_residual-in_err-block-in-If.result (stmt_checks s m (stmt_over (ground_in tree) (stmts_in tree) x c.args.at)) (λ _. HasMet s (met_in m (stmt_over (ground_in tree) (stmts_in tree) x c.args.at)) c.block.new.walk) in
    subst P (sym c.in-If.is) (faulted_exit _ _ _ (stmt_checks s m (if_over e a b c.args.at)) c.from_residual-in_err-block-in-If.ensures.1 (first_fault s m e a b c.args.at _ c.in_ok-condition-in-If.ensures fault))

pub within-returns-in_err-condition-in-While : goal.within-returns-in_err-condition-in-While
within-returns-in_err-condition-in-While t c = λ m g.
    let s = scope_in c.args.scope.now in
    let tree = c.args.scope.now.tree.now in
    let e = expr_at (exprs_in tree) c.in-While.e in
    let a = block_over tree.stmt_items (stmts_in tree) c.in-While.body in
    let P : Stmt → Type 0 = λ x. AnswersWith c.from_residual-in_err-condition-in-While.result (stmt_checks s m (stmt_over (ground_in tree) (stmts_in tree) x c.args.at)) (λ _. HasMet s (met_in m (stmt_over (ground_in tree) (stmts_in tree) x c.args.at)) c.args.walk.now) in
    subst P (sym c.in-While.is) (faulted_exit _ _ _ (stmt_checks s m (while_do e a c.args.at)) c.from_residual-in_err-condition-in-While.ensures.1 (while_fault s m e a c.args.at _ c.in_err-condition-in-While.ensures))

pub within-returns-in-None : goal.within-returns-in-None
within-returns-in-None t c = λ m g.
    let s = scope_in c.args.scope.now in
    let tree = c.args.scope.now.tree.now in
    let e = expr_at (exprs_in tree) c.in-If.e in
    let a = block_over tree.stmt_items (stmts_in tree) c.in-If.first in
    let P : Stmt → Type 0 = λ x. Kept (stmt_checks s m (stmt_over (ground_in tree) (stmts_in tree) x c.args.at)) × HasMet s (met_in m (stmt_over (ground_in tree) (stmts_in tree) x c.args.at)) c.block.new.walk in
    let Q : Option Block → Type 0 = λ b. P (If c.in-If.e c.in-If.first b) in
    subst P (sym c.in-If.is) (subst Q (sym c.in-None.is) (after_first s m e a c.args.at c.args.walk.now c.block.new.walk c.block.result _ c.in_ok-condition-in-If.ensures c.in_ok-block-in-If.was c.block.ensures g))

pub within-returns-in-Some : goal.within-returns-in-Some
within-returns-in-Some t c = λ m g.
    let s = scope_in c.args.scope.now in
    let tree = c.args.scope.now.tree.now in
    let e = expr_at (exprs_in tree) c.in-If.e in
    let a = block_over tree.stmt_items (stmts_in tree) c.in-If.first in
    let b = block_over tree.stmt_items (stmts_in tree) c.in-Some.second in
    let P : Stmt → Type 0 = λ x. AnswersWith c.block-in-Some.result (stmt_checks s m (stmt_over (ground_in tree) (stmts_in tree) x c.args.at)) (λ _. HasMet s (met_in m (stmt_over (ground_in tree) (stmts_in tree) x c.args.at)) c.block-in-Some.new.walk) in
    let Q : Option Block → Type 0 = λ o. P (If c.in-If.e c.in-If.first o) in
    subst P (sym c.in-If.is) (subst Q (sym c.in-Some.is) (after_second s m e a b c.args.at c.args.walk.now c.block.new.walk c.block-in-Some.new.walk c.block.result c.block-in-Some.result _ c.in_ok-condition-in-If.ensures c.in_ok-block-in-If.was c.block.ensures c.block-in-Some.ensures g))

pub within-returns-in_ok-condition-in-While : goal.within-returns-in_ok-condition-in-While
within-returns-in_ok-condition-in-While t c = λ m g.
    let s = scope_in c.args.scope.now in
    let tree = c.args.scope.now.tree.now in
    let e = expr_at (exprs_in tree) c.in-While.e in
    let a = block_over tree.stmt_items (stmts_in tree) c.in-While.body in
    let P : Stmt → Type 0 = λ x. AnswersWith c.block-in-While.result (stmt_checks s m (stmt_over (ground_in tree) (stmts_in tree) x c.args.at)) (λ _. HasMet s (met_in m (stmt_over (ground_in tree) (stmts_in tree) x c.args.at)) c.block-in-While.new.walk) in
    subst P (sym c.in-While.is) (after_body s m e a c.args.at c.args.walk.now c.block-in-While.new.walk c.block-in-While.result c.in_ok-condition-in-While.ensures c.block-in-While.ensures g)
