use Rattle.std.proofs.Common.{ap, ◌∙◌}
use Rattle.oct_def.specs.Octagon.{join_matrix, join_value}
use Rattle.full_oct.proofs.Values.{join_even, either_first, either_second, either_matrix}
use Rattle.full_oct.proofs.value.FullValue.joined.Goals as goal

pub shared-requires-clause-value : goal.shared-requires-clause-value
shared-requires-clause-value c =
    let left = rw c.in-Some-Some.is-0 at c.self.invariant.value in
    let right = rw c.in-Some-Some.is-1 at c.other.invariant.value in
    join_even c.self.inside.dims c.other.inside.dims c.in-Some-Some.a.value c.in-Some-Some.b.value c.in_ok-m-in-Some-Some.m c.args.self.now c.args.other.now (rw c.in-Some-Some.is-0 at c.self.view_is) (rw c.in-Some-Some.is-1 at c.other.view_is) c.requires.dims left right
    (c.in_ok-m-in-Some-Some.ensures.joined ∙ ap (λ x. join_matrix x c.deref-in-Some-Some.result.now) c.deref.ensures ∙ ap (join_matrix c.in-Some-Some.a.value) c.deref-in-Some-Some.ensures)

pub returns-in_ok-v-in-None-default : goal.returns-in_ok-v-in-None-default
unfolding join_value
returns-in_ok-v-in-None-default c = record {
  value = either_first join_matrix c.self.inside.dims c.args.self.now c.args.other.now c.in_ok-v-in-None-default.v (rw c.in-None-default.is-0 at c.self.view_is) c.requires.dims c.in_ok-v-in-None-default.ensures.same;
}

pub returns-in_ok-v-in-Some-None : goal.returns-in_ok-v-in-Some-None
unfolding join_value
returns-in_ok-v-in-Some-None c = record {
  value = either_second join_matrix c.self.inside.dims c.other.inside.dims c.in-Some-None.field-0-0.value c.args.self.now c.args.other.now c.in_ok-v-in-Some-None.v (rw c.in-Some-None.is-0 at c.self.view_is) (rw c.in-Some-None.is-1 at c.other.view_is) c.in_ok-v-in-Some-None.ensures.same;
}

pub returns-in_ok-v-in-Some-Some : goal.returns-in_ok-v-in-Some-Some
unfolding join_value
returns-in_ok-v-in-Some-Some c = record {
  value = either_matrix join_matrix c.self.inside.dims c.other.inside.dims c.in-Some-Some.a.value c.in-Some-Some.b.value c.in_ok-m-in-Some-Some.m c.args.self.now c.args.other.now c.in_ok-v-in-Some-Some.v
      (rw c.in-Some-Some.is-0 at c.self.view_is) (rw c.in-Some-Some.is-1 at c.other.view_is)
      (c.in_ok-m-in-Some-Some.ensures.joined ∙ ap (λ x. join_matrix x c.deref-in-Some-Some.result.now) c.deref.ensures ∙ ap (join_matrix c.in-Some-Some.a.value) c.deref-in-Some-Some.ensures)
      c.in_ok-v-in-Some-Some.ensures.value;
}
