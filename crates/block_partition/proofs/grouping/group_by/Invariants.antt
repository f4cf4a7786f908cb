use Rattle.std.proofs.Common.{map}
use Rattle.std.specs.BTreeMap.{get}
use Rattle.block_partition.specs.Grouping.{label_cmp}
use Rattle.block_partition.proofs.Steps.{Gathers}
use Rattle.block_partition.proofs.grouping.group_by.Given as goal

-- the variables so far are in their groups
abbrev pub invariant-loop-v : goal.invariant-loop-v
invariant-loop-v l = Gathers l.labels l.v (map (λ vs. vs.items) l.blocks.items) l.homes.items (get label_cmp l.numbers)
