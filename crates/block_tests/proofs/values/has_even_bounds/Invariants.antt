use Rattle.std.proofs.Common.{ℕ, ◌<◌}
use Rattle.oct_def.specs.Bound.{IsEven}
use Rattle.oct_def.specs.Table.{at}
use Rattle.oct_def.specs.Matrix.{opposite}
use Rattle.block_tests.proofs.values.has_even_bounds.Given as goal

abbrev pub invariant-loop-i : goal.invariant-loop-i
invariant-loop-i l = (k : ℕ) → k < l.i → IsEven (at l.m k (opposite k))
