use Rattle.std.proofs.Common.{ap, ◌∙◌}
use Rattle.spl_core.specs.Graph.{expr_at, exprs_in}
use Rattle.transfer_def.specs.Assign.{assigned}
use Rattle.full_oct.proofs.Forming.{rows_read, assign_kept_over, assign_bottom_is, assign_matrix_is}
use Rattle.full_oct.proofs.value.FullValue.assigned.Goals as goal

pub assigned_expression-requires-clause-rows : goal.assigned_expression-requires-clause-rows
assigned_expression-requires-clause-rows c =
    let kept = rw c.in-Some.is at c.self.invariant.value in
    rows_read c.self.inside.dims c.in-Some.m.value c.deref.result.now c.deref.ensures kept

pub shared-requires-clause-value : goal.shared-requires-clause-value
shared-requires-clause-value c =
    let kept = rw c.in-Some.is at c.self.invariant.value in
    let e = (expr_at (exprs_in c.args.core.now) c.args.expr) in
    assign_kept_over c.args.target e c.self.inside.dims c.in-Some.m.value c.in_ok-after-in-Some.after kept (c.in_ok-after-in-Some.ensures ∙ ap (assigned c.self.inside.dims c.args.target e) c.deref.ensures)

pub returns-in-None : goal.returns-in-None
returns-in-None c =
    assign_bottom_is c.args.target (expr_at (exprs_in c.args.core.now) c.args.expr) c.self.inside.dims c.args.self.now c.bottom.result (rw c.in-None.is at c.self.view_is) c.bottom.ensures.value

pub returns-in_ok-v-in-Some : goal.returns-in_ok-v-in-Some
returns-in_ok-v-in-Some c =
    let e = (expr_at (exprs_in c.args.core.now) c.args.expr) in
    assign_matrix_is c.args.target e c.self.inside.dims c.in-Some.m.value c.in_ok-after-in-Some.after c.args.self.now c.in_ok-v-in-Some.v
    (rw c.in-Some.is at c.self.view_is) (c.in_ok-after-in-Some.ensures ∙ ap (assigned c.self.inside.dims c.args.target e) c.deref.ensures) c.in_ok-v-in-Some.ensures.value
