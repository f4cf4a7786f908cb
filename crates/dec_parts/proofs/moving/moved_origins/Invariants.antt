use Rattle.std.proofs.Common.{◌≡◌, ℕ, ◌<◌, length, Some}
use Rattle.transfer_def.specs.Dimensions.{moved_variable}
use Rattle.dec_parts.specs.Rename.{origin}
use Rattle.dec_parts.proofs.moving.moved_origins.Given as goal

-- the origins of the first variables
abbrev pub invariant-loop-v : goal.invariant-loop-v
invariant-loop-v l = (length l.origins.items ≡ l.v) × ((k : ℕ) → k < l.v → origin l.origins.items k ≡ Some (moved_variable l.dims l.targets k))
