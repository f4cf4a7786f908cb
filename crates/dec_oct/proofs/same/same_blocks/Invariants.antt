use Rattle.std.proofs.Common.{◌≡◌, ℕ, ◌<◌}
use Rattle.block_partition.specs.Partition.{block}
use Rattle.block_laws.specs.Assembly.{matrix}
use Rattle.dec_oct.proofs.same.same_blocks.Given as goal

abbrev pub invariant-loop-b : goal.invariant-loop-b
invariant-loop-b l = record {
  members : (k : ℕ) → k < l.b → block l.p k ≡ block l.q k;
  words : (k : ℕ) → k < l.b → matrix l.ms k ≡ matrix l.ns k;
}
