use Rattle.std.proofs.Common.{◌≡◌, ℕ, ◌<◌, length}
use Rattle.block_partition.specs.Partition.{block}
use Rattle.block_laws.specs.Assembly.{matrix, restrict}
use Rattle.dec_oct.specs.Value.{whole}
use Rattle.dec_lattice.specs.Operation.{combined_matrix}
use Rattle.dec_lattice.specs.Over.{held}
use Rattle.dec_lattice.proofs.over.combined_parts.Given as goal

abbrev pub invariant-loop-c : goal.invariant-loop-c
invariant-loop-c l = (length l.made.items ≡ l.c) × ((k : ℕ) → k < l.c → matrix l.made.items k ≡ combined_matrix l.op (restrict (block l.others k) (whole l.a.dims (held l.a))) (restrict (block l.others k) (whole l.a.dims (held l.b))))
