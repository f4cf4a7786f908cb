use Rattle.std.proofs.Common.{rules, ◌≡◌, ℕ, suc, ◌+◌, drop, get_or, length, pos, FitsSigned, to_z, of_z, sym, ap, ◌∙◌, arith}
use Rattle.std.specs.Prelude.{slice_set}
use Rattle.std.specs.Int.{w128}
use Rattle.std.proofs.lemmas.Int.{to_z-of_z}
use Rattle.spl_core.specs.Parts.{span_dims}
use Rattle.spl_runs.specs.Runs.{with_values}
use Rattle.spl_runs.proofs.Spans.{span_at, span_length, outputs_more, outputs_none}
use Rattle.spl_runs.proofs.frame.set_outputs.Goals as goal
use Rattle.spl_runs.proofs.frame.set_outputs.Goals.{then-at-outputs, else-at-outputs}

pub loop-k-preserved : goal.loop-k-preserved
loop-k-preserved c =
    let k : ℕ = c.loop-k.k in
    let l : length (span_dims c.args.core.now c.args.targets) ≡ c.args.targets.count = span_length c.args.core.now c.args.targets c.requires in
    let xs = span_dims c.args.core.now c.args.targets in
    let i : suc k ≡ k + 1 = omega arith in
    let more : with_values c.loop-k.values (drop k xs) (drop k c.args.outputs.now) ≡ with_values c.if-at-outputs.values (drop (suc k) xs) (drop (suc k) c.args.outputs.now) =
    elim c.if-at-outputs.branch [
      | then-at-outputs w ↦
          let f : FitsSigned w128 (get_or c.args.outputs.now k (pos 0)) = search rules in
          let a : w.span_item.result ≡ get_or xs k 0 = w.span_item.ensures.found ∙ sym (span_at c.args.core.now c.args.targets k (omega arith)) in
          outputs_more c.loop-k.values c.if-at-outputs.values xs c.args.outputs.now k (pos 0) (omega arith) w.if-at-outputs.true
          (w.values-is ∙ (w.set.ensures ∙ (ap (λ v. slice_set c.loop-k.values v (to_z w128 (of_z w128 (get_or c.args.outputs.now k (pos 0))))) a ∙ ap (slice_set c.loop-k.values (get_or xs k 0)) (to_z-of_z w128 (get_or c.args.outputs.now k (pos 0)) f))))
      | else-at-outputs w ↦ outputs_none c.loop-k.values xs c.args.outputs.now k w.if-at-outputs.false ∙ ap (λ s. with_values s (drop (suc k) xs) (drop (suc k) c.args.outputs.now)) (sym w.values-is)
    ] in
    c.loop-k.invariant ∙ (more ∙ ap (λ n. with_values c.if-at-outputs.values (drop n xs) (drop n c.args.outputs.now)) i)
