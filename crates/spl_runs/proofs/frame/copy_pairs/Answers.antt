use Rattle.std.proofs.Common.{◌≡◌, ℕ, suc, ◌+◌, ◌*◌, drop, get_or, length, FitsSigned, to_z, of_z, sym, ap, ◌∙◌, arith}
use Rattle.std.specs.Prelude.{slice_set}
use Rattle.std.specs.Int.{w128}
use Rattle.std.proofs.lemmas.Int.{to_z-of_z}
use Rattle.spl_core.specs.Parts.{span_dims}
use Rattle.spl_core.specs.Expression.{value_of}
use Rattle.spl_core.specs.Graph.{pairs_in}
use Rattle.spl_runs.specs.Runs.{copied}
use Rattle.spl_runs.proofs.Spans.{span_at, span_length, pairs_more, pairs_end}
use Rattle.spl_runs.proofs.frame.copy_pairs.Goals as goal

pub loop-k-preserved : goal.loop-k-preserved
loop-k-preserved c =
    let k : ℕ = c.loop-k.k in
    let f : FitsSigned w128 c.dimension-x.result = record { sfits = c.dimension-x.type_inv } in
    let l : length (span_dims c.args.core.now c.args.pairs) ≡ c.args.pairs.count = span_length c.args.core.now c.args.pairs c.requires in
    let a : c.span_item-target.result ≡ get_or (span_dims c.args.core.now c.args.pairs) (2 * k) 0 =
    c.span_item-target.ensures.found ∙ sym (span_at c.args.core.now c.args.pairs (2 * k) (omega arith)) in
    let b : c.span_item-origin.result ≡ get_or (span_dims c.args.core.now c.args.pairs) (2 * k + 1) 0 =
    c.span_item-origin.ensures.found ∙ sym (span_at c.args.core.now c.args.pairs (2 * k + 1) (omega arith)) in
    let x : to_z w128 (of_z w128 c.dimension-x.result) ≡ value_of c.loop-k.values (get_or (span_dims c.args.core.now c.args.pairs) (2 * k + 1) 0) =
    to_z-of_z w128 c.dimension-x.result f ∙ (c.dimension-x.ensures.value ∙ ap (value_of c.loop-k.values) b) in
    let e : c.set.new.values ≡ slice_set c.loop-k.values (get_or (span_dims c.args.core.now c.args.pairs) (2 * k) 0) (value_of c.loop-k.values (get_or (span_dims c.args.core.now c.args.pairs) (2 * k + 1) 0)) =
    c.set.ensures ∙ (ap (λ v. slice_set c.loop-k.values v (to_z w128 (of_z w128 c.dimension-x.result))) a ∙ ap (slice_set c.loop-k.values (get_or (span_dims c.args.core.now c.args.pairs) (2 * k) 0)) x) in
    let i : suc k ≡ k + 1 = omega arith in
    c.loop-k.invariant ∙ (pairs_more c.loop-k.values c.set.new.values (span_dims c.args.core.now c.args.pairs) k (omega arith) e ∙ ap (λ n. copied (pairs_in (drop (2 * n) (span_dims c.args.core.now c.args.pairs))) c.set.new.values) i)

pub returns : goal.returns
returns c =
    let l : length (span_dims c.args.core.now c.args.pairs) ≡ c.args.pairs.count = span_length c.args.core.now c.args.pairs c.requires in
    sym (c.loop-k.invariant ∙ pairs_end c.loop-k.values (span_dims c.args.core.now c.args.pairs) c.loop-k.k (omega arith))
