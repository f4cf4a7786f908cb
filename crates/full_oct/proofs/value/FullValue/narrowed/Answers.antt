use Rattle.std.proofs.Common.{ap, ◌∙◌}
use Rattle.oct_def.specs.Octagon.{narrow_matrix, narrow_value}
use Rattle.full_oct.proofs.Values.{narrow_even, both_first, both_second, both_matrix}
use Rattle.full_oct.proofs.value.FullValue.narrowed.Goals as goal

pub shared-requires-clause-value : goal.shared-requires-clause-value
shared-requires-clause-value c =
    let left = rw c.in-Some-Some.is-0 at c.self.invariant.value in
    let right = rw c.in-Some-Some.is-1 at c.other.invariant.value in
    narrow_even c.self.inside.dims c.other.inside.dims c.in-Some-Some.a.value c.in-Some-Some.b.value c.in_ok-m-in-Some-Some.m c.args.self.now c.args.other.now (rw c.in-Some-Some.is-0 at c.self.view_is) (rw c.in-Some-Some.is-1 at c.other.view_is) c.requires.dims left right
    (c.in_ok-m-in-Some-Some.ensures.narrowed ∙ ap (λ x. narrow_matrix x c.deref-in-Some-Some.result.now) c.deref.ensures ∙ ap (narrow_matrix c.in-Some-Some.a.value) c.deref-in-Some-Some.ensures)

pub returns-in_ok-v-in-Some-Some : goal.returns-in_ok-v-in-Some-Some
unfolding narrow_value
returns-in_ok-v-in-Some-Some c = record {
  value = both_matrix narrow_matrix c.self.inside.dims c.other.inside.dims c.in-Some-Some.a.value c.in-Some-Some.b.value c.in_ok-m-in-Some-Some.m c.args.self.now c.args.other.now c.in_ok-v-in-Some-Some.v
      (rw c.in-Some-Some.is-0 at c.self.view_is) (rw c.in-Some-Some.is-1 at c.other.view_is)
      (c.in_ok-m-in-Some-Some.ensures.narrowed ∙ ap (λ x. narrow_matrix x c.deref-in-Some-Some.result.now) c.deref.ensures ∙ ap (narrow_matrix c.in-Some-Some.a.value) c.deref-in-Some-Some.ensures)
      c.in_ok-v-in-Some-Some.ensures.value;
}

pub returns-in-None-default : goal.returns-in-None-default
unfolding narrow_value
returns-in-None-default c = record {
  value = both_first narrow_matrix c.self.inside.dims c.args.self.now c.args.other.now c.bottom.result (rw c.in-None-default.is-0 at c.self.view_is) c.bottom.ensures.value;
}

pub returns-in-Some-None : goal.returns-in-Some-None
unfolding narrow_value
returns-in-Some-None c = record {
  value = both_second narrow_matrix c.self.inside.dims c.other.inside.dims c.in-Some-None.field-0-0.value c.args.self.now c.args.other.now c.bottom-in-Some-None.result (rw c.in-Some-None.is-0 at c.self.view_is) (rw c.in-Some-None.is-1 at c.other.view_is) c.bottom-in-Some-None.ensures.value;
}
