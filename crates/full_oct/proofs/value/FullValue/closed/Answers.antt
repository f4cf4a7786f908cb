use Rattle.std.proofs.Common.{ap, ◌∙◌}
use Rattle.oct_def.specs.Octagon.{tight_value}
use Rattle.oct_def.specs.Tight.{tight}
use Rattle.full_oct.proofs.Values.{close_bottom, close_value, close_is}
use Rattle.full_oct.proofs.value.FullValue.closed.Goals as goal

pub shared-requires-clause-value : goal.shared-requires-clause-value
shared-requires-clause-value c =
    let kept = rw c.in-Some.is at c.self.invariant.value in
    close_value c.self.inside.dims c.in-Some.m.value c.in_ok-closed-in-Some.closed kept (c.in_ok-closed-in-Some.ensures.tight ∙ ap tight c.deref.ensures)

pub returns-in-None : goal.returns-in-None
unfolding tight_value
returns-in-None c = record {
  value = close_bottom c.self.inside.dims c.args.self.now c.bottom.result (rw c.in-None.is at c.self.view_is) c.bottom.ensures.value;
}

pub returns-in_ok-v-in-Some : goal.returns-in_ok-v-in-Some
returns-in_ok-v-in-Some c = record {
  value = close_is c.self.inside.dims c.in-Some.m.value c.in_ok-closed-in-Some.closed c.args.self.now c.in_ok-v-in-Some.v
      (rw c.in-Some.is at c.self.view_is) (c.in_ok-closed-in-Some.ensures.tight ∙ ap tight c.deref.ensures) c.in_ok-v-in-Some.ensures.value;
}
