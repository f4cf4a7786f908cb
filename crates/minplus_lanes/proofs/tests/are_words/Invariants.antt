use Rattle.std.proofs.Common.{ℕ, ◌<◌, slice_index_or, pos}
use Rattle.oct_def.specs.Bound.{IsWord}
use Rattle.minplus_lanes.proofs.tests.are_words.Given as goal

abbrev pub invariant-loop-j : goal.invariant-loop-j
invariant-loop-j l = (k : ℕ) → k < l.j → IsWord (slice_index_or l.row k (pos 0))
