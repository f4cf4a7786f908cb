use Rattle.std.proofs.Common.{ℕ}
use Rattle.oct_def.specs.Bound.{InRange}
use Rattle.oct_def.specs.Table.{at}
use Rattle.block_tests.proofs.seeded.fill.Given as goal

abbrev pub invariant-rows : goal.invariant-rows
invariant-rows l = (i j : ℕ) → InRange (at l.m i j)

abbrev pub invariant-columns : goal.invariant-columns
invariant-columns l = (i j : ℕ) → InRange (at l.m i j)
