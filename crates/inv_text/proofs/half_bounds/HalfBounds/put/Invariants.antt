use Rattle.std.proofs.Common.{◌≡◌, ◌<◌, ◌≤◌, true, length, get_or}
use Rattle.inv_text.specs.Places.{is_before}
use Rattle.inv_text.proofs.half_bounds.HalfBounds.put.Given as goal

-- The bound belongs before those from the place on.
abbrev pub invariant-loop-place : goal.invariant-loop-place
invariant-loop-place l = (l.place ≤ length l.self-inside.bounds.items) × (l.place < length l.self-inside.bounds.items → is_before l.bound (get_or l.self-inside.bounds.items l.place l.bound) ≡ true)

abbrev pub decreases-loop-place : goal.decreases-loop-place
decreases-loop-place l = l.place
