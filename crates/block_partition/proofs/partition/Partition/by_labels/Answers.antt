use Rattle.std.proofs.Common.{ap, ◌∙◌, arith}
use Rattle.block_partition.specs.Grouping.{grouped}
use Rattle.block_partition.proofs.Relabelled.{own-labels, labelled-all, own-rest}
use Rattle.block_partition.proofs.partition.Partition.by_labels.Goals as goal

pub returns : goal.returns
returns c =
    let numbers = c.args.labels.now in
    let labelled = labelled-all _ c.loop-v.made.items c.loop-v.v _ c.loop-v.invariant (omega arith) c.requires.small (λ k p. own-rest numbers k p) in
    own-labels numbers _ _ labelled (c.in_ok-p.ensures ∙ ap grouped c.deref.ensures.value)
