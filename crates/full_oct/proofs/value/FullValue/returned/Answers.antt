use Rattle.std.proofs.Common.{◌+◌, ◌*◌, sym, ap, ◌∙◌}
use Rattle.transfer_def.specs.Back.{joined}
use Rattle.full_oct.proofs.Values.{back_first, back_second, back_even, back_is}
use Rattle.full_oct.proofs.value.FullValue.returned.Goals as goal

pub closed_and_moved-requires-clause-rows : goal.closed_and_moved-requires-clause-rows
closed_and_moved-requires-clause-rows c = c.in_ok-joined-in-Some-Some.ensures.rows ∙ ap (λ k. 2 * (c.self.inside.dims + k)) (sym c.requires.count)

pub shared-requires-clause-value : goal.shared-requires-clause-value
shared-requires-clause-value c =
    let left = rw c.in-Some-Some.is-0 at c.self.invariant.value in
    let right = rw c.in-Some-Some.is-1 at c.exit.invariant.value in
    back_even c.self.inside.dims c.exit.inside.dims c.in-Some-Some.before.value c.in-Some-Some.at_exit.value c.in_ok-joined-in-Some-Some.joined c.in_ok-after-in-Some-Some.after c.args.args.now c.args.outputs c.args.targets.now left right c.requires.count
    (c.in_ok-joined-in-Some-Some.ensures.joined
    ∙ ap (λ k. joined c.self.inside.dims c.args.args.now c.args.outputs k c.deref-in-Some-Some.result.now) c.deref.ensures
    ∙ ap (joined c.self.inside.dims c.args.args.now c.args.outputs c.in-Some-Some.before.value) c.deref-in-Some-Some.ensures)
    c.in_ok-after-in-Some-Some.ensures.moved

pub returns-in-None-default : goal.returns-in-None-default
returns-in-None-default c = record {
  value = back_first c.self.inside.dims c.args.args.now c.args.outputs c.args.targets.now c.args.self.now c.args.exit.now c.bottom.result (rw c.in-None-default.is-0 at c.self.view_is) c.bottom.ensures.value;
}

pub returns-in-Some-None : goal.returns-in-Some-None
returns-in-Some-None c = record {
  value = back_second c.self.inside.dims c.exit.inside.dims c.in-Some-None.field-0-0.value c.args.args.now c.args.outputs c.args.targets.now c.args.self.now c.args.exit.now c.bottom-in-Some-None.result
      (rw c.in-Some-None.is-0 at c.self.view_is) (rw c.in-Some-None.is-1 at c.exit.view_is) c.bottom-in-Some-None.ensures.value;
}

pub returns-in_ok-v-in-Some-Some : goal.returns-in_ok-v-in-Some-Some
returns-in_ok-v-in-Some-Some c = record {
  value = back_is c.self.inside.dims c.exit.inside.dims c.in-Some-Some.before.value c.in-Some-Some.at_exit.value c.in_ok-joined-in-Some-Some.joined c.in_ok-after-in-Some-Some.after c.args.args.now c.args.outputs c.args.targets.now c.args.self.now c.args.exit.now c.in_ok-v-in-Some-Some.v
      (rw c.in-Some-Some.is-0 at c.self.view_is) (rw c.in-Some-Some.is-1 at c.exit.view_is)
      (c.in_ok-joined-in-Some-Some.ensures.joined
      ∙ ap (λ k. joined c.self.inside.dims c.args.args.now c.args.outputs k c.deref-in-Some-Some.result.now) c.deref.ensures
      ∙ ap (joined c.self.inside.dims c.args.args.now c.args.outputs c.in-Some-Some.before.value) c.deref-in-Some-Some.ensures)
      c.in_ok-after-in-Some-Some.ensures.moved c.in_ok-v-in-Some-Some.ensures.value;
}
