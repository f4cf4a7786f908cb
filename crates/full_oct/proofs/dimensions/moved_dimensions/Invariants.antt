use Rattle.std.proofs.Common.{◌≡◌, ℕ, ◌<◌, length, get_or}
use Rattle.transfer_def.specs.Dimensions.{moved_dimension}
use Rattle.full_oct.proofs.dimensions.moved_dimensions.Given as goal

-- the places so far are those of the first signed dimensions
abbrev pub invariant-loop-i : goal.invariant-loop-i
invariant-loop-i l = (length l.places.items ≡ l.i) × ((k : ℕ) → k < length l.places.items → get_or l.places.items k 0 ≡ moved_dimension l.dims l.targets k)
