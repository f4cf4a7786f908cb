use Rattle.std.proofs.Common.{◌≡◌, ℕ, ◌<◌}
use Rattle.block_partition.specs.Partition.{member}
use Rattle.dec_parts.proofs.moving.moved_variable.Given as goal

-- no target so far is the variable
abbrev pub invariant-loop-k : goal.invariant-loop-k
invariant-loop-k l = (i : ℕ) → i < l.k → member l.targets i ≡ l.v → ⊥
