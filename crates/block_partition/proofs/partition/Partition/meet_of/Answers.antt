use Rattle.std.proofs.Common.{length, refl, ap, ◌∙◌, arith}
use Rattle.block_partition.specs.Grouping.{grouped}
use Rattle.block_partition.proofs.Relabelled.{meet-labels, labelled-all, meet-rest}
use Rattle.block_partition.proofs.partition.Partition.meet_of.Goals as goal

pub returns : goal.returns
returns c =
    let homes = c.homes-v-end.result.now in
    let labelled = labelled-all _ c.loop-v.labels.items c.loop-v.v (length homes) c.loop-v.invariant (omega arith) c.homes-v-end.ensures.few (λ k p. meet-rest c.args.a.now c.args.a.now c.args.b.now homes k refl c.homes-v-end.ensures p) in
    meet-labels c.args.a.now c.args.b.now _ _ labelled (c.in_ok-p.ensures ∙ ap grouped c.deref.ensures.value)
