use Rattle.std.proofs.Common.{ap, ◌∙◌, arith}
use Rattle.block_partition.specs.Grouping.{grouped}
use Rattle.block_partition.proofs.Relabelled.{merged-labels, labelled-all, merged-rest}
use Rattle.block_partition.proofs.partition.Partition.merged.Goals as goal

pub returns : goal.returns
returns c =
    let bs = c.args.self.now in
    let vs = c.args.vars.now in
    let marks = c.in_ok-marks.marks.items in
    let n = c.span-past.result in
    let labelled = labelled-all _ c.loop-v.labels.items c.loop-v.v n c.loop-v.invariant (omega arith) c.span-past.ensures.few (λ k p. merged-rest bs vs marks n k c.known.ensures.partition c.known.ensures.ordered c.in_ok-marks.ensures c.span-past.ensures p) in
    merged-labels bs _ vs _ marks c.known.ensures.partition c.known.ensures.ordered c.in_ok-marks.ensures labelled (c.in_ok-p.ensures ∙ ap grouped c.deref-2.ensures.value)
