use Rattle.std.proofs.Common.{ℕ, ◌<◌, slice_index_or, pos, FitsSigned}
use Rattle.std.specs.Int.{w64}
use Rattle.minplus_lanes.proofs.fits.all_fit.Given as goal

abbrev pub invariant-loop-j : goal.invariant-loop-j
invariant-loop-j l = (k : ℕ) → k < l.j → FitsSigned w64 (slice_index_or l.words k (pos 0))
