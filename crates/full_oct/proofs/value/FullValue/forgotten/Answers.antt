use Rattle.std.proofs.Common.{ap, ◌∙◌}
use Rattle.transfer_def.specs.Forget.{forgotten}
use Rattle.full_oct.proofs.Forming.{rows_read, forget_kept, forget_bottom_is, forget_matrix_is}
use Rattle.full_oct.proofs.value.FullValue.forgotten.Goals as goal

pub forgotten-requires : goal.forgotten-requires
forgotten-requires c =
    let kept = rw c.in-Some.is at c.self.invariant.value in
    record { rows = rows_read c.self.inside.dims c.in-Some.m.value c.deref.result.now c.deref.ensures kept }

pub shared-requires-clause-value : goal.shared-requires-clause-value
shared-requires-clause-value c =
    let kept = rw c.in-Some.is at c.self.invariant.value in
    forget_kept c.args.target c.self.inside.dims c.in-Some.m.value c.in_ok-after-in-Some.after kept (c.in_ok-after-in-Some.ensures ∙ ap (forgotten c.self.inside.dims c.args.target) c.deref.ensures)

pub returns-in-None : goal.returns-in-None
returns-in-None c = forget_bottom_is c.args.target c.self.inside.dims c.args.self.now c.bottom.result (rw c.in-None.is at c.self.view_is) c.bottom.ensures.value

pub returns-in_ok-v-in-Some : goal.returns-in_ok-v-in-Some
returns-in_ok-v-in-Some c =
    forget_matrix_is c.args.target c.self.inside.dims c.in-Some.m.value c.in_ok-after-in-Some.after c.args.self.now c.in_ok-v-in-Some.v
    (rw c.in-Some.is at c.self.view_is) (c.in_ok-after-in-Some.ensures ∙ ap (forgotten c.self.inside.dims c.args.target) c.deref.ensures) c.in_ok-v-in-Some.ensures.value
