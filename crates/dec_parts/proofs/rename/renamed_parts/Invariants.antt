use Rattle.std.proofs.Common.{◌≡◌, ℕ, ◌<◌, length}
use Rattle.std.specs.Prelude.{IfSome}
use Rattle.block_partition.specs.Partition.{block}
use Rattle.block_laws.specs.Assembly.{matrix}
use Rattle.dec_oct.specs.Value.{marked}
use Rattle.dec_parts.specs.Rename.{IsRenamedPart}
use Rattle.dec_parts.proofs.rename.renamed_parts.Given as goal

abbrev pub invariant-loop-c : goal.invariant-loop-c
invariant-loop-c l = (length l.matrices.items ≡ l.c) × ((length l.settled.items ≡ l.c) × ((k : ℕ) → k < l.c → IfSome l.v.blocks (λ b. IsRenamedPart l.v.dims l.origins b (block l.fn.partition k) (matrix l.matrices.items k) (marked l.settled.items k))))
