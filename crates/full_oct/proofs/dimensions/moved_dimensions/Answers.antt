use Rattle.std.proofs.Common.{◌≡◌, ◌+◌, ◌*◌, ◌/◌, ◌%◌, ◌∷◌, [], length, length-append, ap, sym, ◌∙◌, arith}
use Rattle.transfer_def.specs.Dimensions.{moved_variable, moved_dimension}
use Rattle.transfer_def.proofs.Dimensions.{moved_dimension-below}
use Rattle.full_oct.proofs.Places.{each_more}
use Rattle.full_oct.proofs.dimensions.moved_dimensions.Goals as goal

pub overflow_mul-variable : goal.overflow_mul-variable
unfolding moved_dimension
overflow_mul-variable c =
    let below = moved_dimension-below c.args.dims c.args.targets.now c.loop-i.i (omega arith) in
    omega (arith, below, c.moved_variable-variable.ensures)

pub overflow_add-variable : goal.overflow_add-variable
unfolding moved_dimension
overflow_add-variable c =
    let below = moved_dimension-below c.args.dims c.args.targets.now c.loop-i.i (omega arith) in
    omega (arith, below, c.moved_variable-variable.ensures)

pub loop-i-preserved : goal.loop-i-preserved
unfolding moved_dimension
loop-i-preserved c =
    let n = c.args.dims in
    let ts = c.args.targets.now in
    let places = c.loop-i.places.items in
    let w = 2 * c.moved_variable-variable.result + c.loop-i.i % 2 in (
      omega (arith, ap length c.in_ok-push.ensures.items, length-append places (w ∷ []), c.loop-i.invariant.0),
      each_more (λ k p. p ≡ 2 * moved_variable n ts (k / 2) + k % 2) 0 places c.push.new.self.items w c.loop-i.invariant.1
          (ap (λ v. 2 * v + c.loop-i.i % 2) c.moved_variable-variable.ensures ∙ ap (λ k. 2 * moved_variable n ts (k / 2) + k % 2) (sym c.loop-i.invariant.0)) c.in_ok-push.ensures.items,
    )

pub returns : goal.returns
returns c =
    let all : c.loop-i.i ≡ 2 * c.args.dims = omega arith in
    record {
      each = record {
        size = c.loop-i.invariant.0 ∙ all;
        each = λ i p. c.loop-i.invariant.1 i (omega (arith, c.loop-i.invariant.0, all));
      };
    }
