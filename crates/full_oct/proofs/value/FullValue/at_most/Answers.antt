use Rattle.std.proofs.Common.{ap, ◌∙◌}
use Rattle.spl_core.specs.Graph.{expr_at, exprs_in}
use Rattle.transfer_def.specs.Test.{restrict_at_most}
use Rattle.full_oct.proofs.Forming.{rows_read}
use Rattle.full_oct.proofs.Testing.{at_most_kept, at_most_bottom_is, at_most_matrix_is}
use Rattle.full_oct.proofs.value.FullValue.at_most.Goals as goal

pub at_most-requires-clause-rows : goal.at_most-requires-clause-rows
at_most-requires-clause-rows c =
    let kept = rw c.in-Some.is at c.self.invariant.value in
    rows_read c.self.inside.dims c.in-Some.m.value c.deref.result.now c.deref.ensures kept

pub shared-requires-clause-value : goal.shared-requires-clause-value
shared-requires-clause-value c =
    let kept = rw c.in-Some.is at c.self.invariant.value in
    let a = expr_at (exprs_in c.args.core.now) c.args.a in
    let b = expr_at (exprs_in c.args.core.now) c.args.b in
    at_most_kept a b c.self.inside.dims c.in-Some.m.value c.in_ok-after-in-Some.after kept (c.in_ok-after-in-Some.ensures ∙ ap (restrict_at_most c.self.inside.dims a b) c.deref.ensures)

pub returns-in-None : goal.returns-in-None
returns-in-None c =
    at_most_bottom_is (expr_at (exprs_in c.args.core.now) c.args.a) (expr_at (exprs_in c.args.core.now) c.args.b) c.self.inside.dims c.args.self.now c.bottom.result (rw c.in-None.is at c.self.view_is) c.bottom.ensures.value

pub returns-in_ok-v-in-Some : goal.returns-in_ok-v-in-Some
returns-in_ok-v-in-Some c =
    let a = expr_at (exprs_in c.args.core.now) c.args.a in
    let b = expr_at (exprs_in c.args.core.now) c.args.b in
    at_most_matrix_is a b c.self.inside.dims c.in-Some.m.value c.in_ok-after-in-Some.after c.args.self.now c.in_ok-v-in-Some.v
    (rw c.in-Some.is at c.self.view_is) (c.in_ok-after-in-Some.ensures ∙ ap (restrict_at_most c.self.inside.dims a b) c.deref.ensures) c.in_ok-v-in-Some.ensures.value
