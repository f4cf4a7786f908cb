use Rattle.std.proofs.Common.{ℕ, ◌<◌, slice_index_or, pos}
use Rattle.minplus_lanes.specs.Rows.{IsHalfWord}
use Rattle.minplus_lanes.proofs.tests.are_halves.Given as goal

abbrev pub invariant-loop-j : goal.invariant-loop-j
invariant-loop-j l = (k : ℕ) → k < l.j → IsHalfWord (slice_index_or l.row k (pos 0))
