use Rattle.std.proofs.Common.{◌≡◌, ℕ, suc, ◌+◌, take, get_or, length, ◌++◌, ◌∷◌, [], FitsSigned, to_z, of_z, sym, ap, ◌∙◌, arith}
use Rattle.std.specs.Int.{w128}
use Rattle.std.proofs.lemmas.Int.{to_z-of_z}
use Rattle.spl_core.specs.Parts.{span_dims}
use Rattle.spl_core.specs.Expression.{value_of}
use Rattle.spl_runs.specs.Runs.{values_of}
use Rattle.spl_runs.proofs.Spans.{span_at, span_length, values_more}
use Rattle.spl_runs.proofs.frame.values_at.Goals as goal

pub loop-k-preserved : goal.loop-k-preserved
loop-k-preserved c =
    let k : ℕ = c.loop-k.k in
    let f : FitsSigned w128 c.dimension.result = record { sfits = c.dimension.type_inv } in
    let l : length (span_dims c.args.core.now c.args.dims) ≡ c.args.dims.count = span_length c.args.core.now c.args.dims c.requires in
    let a : c.span_item.result ≡ get_or (span_dims c.args.core.now c.args.dims) k 0 =
    c.span_item.ensures.found ∙ sym (span_at c.args.core.now c.args.dims k (omega arith)) in
    let x : to_z w128 (of_z w128 c.dimension.result) ≡ value_of c.args.values.now (get_or (span_dims c.args.core.now c.args.dims) k 0) =
    to_z-of_z w128 c.dimension.result f ∙ (c.dimension.ensures.value ∙ ap (value_of c.args.values.now) a) in
    c.in_ok-push.ensures.items
    ∙ (ap (λ ys. ys ++ to_z w128 (of_z w128 c.dimension.result) ∷ []) c.loop-k.invariant
    ∙ (ap (λ y. values_of c.args.values.now (take k (span_dims c.args.core.now c.args.dims)) ++ y ∷ []) x
    ∙ (values_more c.args.values.now (span_dims c.args.core.now c.args.dims) k (omega arith)
    ∙ (let i : suc k ≡ k + 1 = omega arith in ap (λ n. values_of c.args.values.now (take n (span_dims c.args.core.now c.args.dims))) i))))
