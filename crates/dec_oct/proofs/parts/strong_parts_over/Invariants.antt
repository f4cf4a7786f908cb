use Rattle.std.proofs.Common.{◌≡◌, ℕ, ◌<◌, length}
use Rattle.oct_def.specs.Tight.{strengthening}
use Rattle.block_partition.specs.Partition.{block}
use Rattle.block_laws.specs.Assembly.{matrix, restrict, assembly}
use Rattle.dec_oct.proofs.parts.strong_parts_over.Given as goal

abbrev pub invariant-loop-c : goal.invariant-loop-c
invariant-loop-c l = (length l.made.items ≡ l.c) × ((k : ℕ) → k < l.c → matrix l.made.items k ≡ restrict (block l.others k) (strengthening (assembly l.dims l.partition l.matrices)))
