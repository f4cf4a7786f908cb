use Rattle.std.proofs.Common.{◌≡◌, ℕ, ◌<◌, ◌≤◌, length}
use Rattle.block_partition.specs.Partition.{block}
use Rattle.components.proofs.walk.greatest_size.Given as goal

abbrev pub invariant-loop-b : goal.invariant-loop-b
invariant-loop-b l = record {
  above : (c : ℕ) → c < l.b → length (block l.blocks c) ≤ l.most;
  attained : 0 < l.most → (c : ℕ) × (c < l.b) × (length (block l.blocks c) ≡ l.most);
}
