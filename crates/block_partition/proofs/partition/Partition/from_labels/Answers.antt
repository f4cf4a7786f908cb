use Rattle.std.proofs.Common.{map, sym, ap, ◌∙◌, subst}
use Rattle.block_partition.specs.declared.grouping.Grouped.{Grouped}
use Rattle.block_partition.specs.Grouping.{grouped, IsHomes}
use Rattle.block_partition.proofs.Relabelled.{valid-labels}
use Rattle.block_partition.proofs.partition.Partition.from_labels.Goals as goal

pub invariant_of-result : goal.invariant_of-result
invariant_of-result c =
    let made = c.in_ok-made.ensures in
    let e = c.in_ok-held.ensures.ok in
    valid-labels c.args.labels.now _ _ (ap (λ (g : Grouped). map (λ vs. vs.items) g.blocks.items) e ∙ made.blocks) c.requires.small
    (subst (λ (g : Grouped). IsHomes (grouped c.args.labels.now) g.homes.items) (sym e) made.homes)
