use Rattle.std.proofs.Common.{length, refl, ap, ◌∙◌, arith}
use Rattle.block_partition.specs.Grouping.{grouped}
use Rattle.block_partition.proofs.Relabelled.{split-labels, labelled-all, split-rest}
use Rattle.block_partition.proofs.partition.Partition.split.Goals as goal

pub returns : goal.returns
returns c =
    let homes = c.homes-v-end.result.now in
    let labelled = labelled-all _ c.loop-v.made.items c.loop-v.v (length homes) c.loop-v.invariant (omega arith) c.homes-v-end.ensures.few (λ k p. split-rest c.args.self.now c.args.self.now c.args.b c.args.labels.now homes k refl c.homes-v-end.ensures c.requires.block p) in
    split-labels c.args.self.now _ c.args.b c.args.labels.now _ labelled (c.in_ok-p.ensures ∙ ap grouped c.deref.ensures.value)
