use Rattle.std.proofs.Common.{◌≡◌, ℕ, length}
use Rattle.oct_def.specs.Bound.{InRange}
use Rattle.oct_def.specs.Table.{at}
use Rattle.block_tests.proofs.matrices.constrain_all.Given as goal

abbrev pub invariant-loop-k : goal.invariant-loop-k
invariant-loop-k l = record { in_range : (i j : ℕ) → InRange (at l.m i j); rows : length l.m ≡ length l.fn.m }
