use Rattle.std.proofs.Common.{ap, ◌∙◌}
use Rattle.transfer_def.specs.Enter.{enter_matrix}
use Rattle.full_oct.proofs.Values.{enter_bottom, enter_even, enter_is}
use Rattle.full_oct.proofs.value.FullValue.entered.Goals as goal

pub shared-requires-clause-value : goal.shared-requires-clause-value
shared-requires-clause-value c =
    let kept = rw c.in-Some.is at c.self.invariant.value in
    enter_even c.self.inside.dims c.args.dims c.args.args.now c.in-Some.m.value c.in_ok-entered-in-Some.entered kept (c.in_ok-entered-in-Some.ensures.entered ∙ ap (enter_matrix c.args.args.now c.args.dims) c.deref.ensures)

pub returns-in-None : goal.returns-in-None
returns-in-None c = record {
  value = enter_bottom c.self.inside.dims c.args.dims c.args.args.now c.args.self.now c.bottom.result (rw c.in-None.is at c.self.view_is) c.bottom.ensures.value;
}

pub returns-in_ok-v-in-Some : goal.returns-in_ok-v-in-Some
returns-in_ok-v-in-Some c = record {
  value = enter_is c.self.inside.dims c.args.dims c.args.args.now c.in-Some.m.value c.in_ok-entered-in-Some.entered c.args.self.now c.in_ok-v-in-Some.v
      (rw c.in-Some.is at c.self.view_is) (c.in_ok-entered-in-Some.ensures.entered ∙ ap (enter_matrix c.args.args.now c.args.dims) c.deref.ensures) c.in_ok-v-in-Some.ensures.value;
}
