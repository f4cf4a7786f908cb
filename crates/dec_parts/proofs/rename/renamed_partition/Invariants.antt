use Rattle.std.proofs.Common.{◌≡◌, ℕ, ◌<◌, length}
use Rattle.block_partition.specs.Changes.{given_label}
use Rattle.dec_parts.specs.Rename.{IsNumber}
use Rattle.dec_parts.proofs.rename.renamed_partition.Given as goal

abbrev pub invariant-loop-v : goal.invariant-loop-v
invariant-loop-v l = (length l.numbers.items ≡ l.v) × ((k : ℕ) → k < l.v → IsNumber l.partition l.origins k (given_label l.numbers.items k))
