use Rattle.std.proofs.Common.{◌≡◌, ℕ, ◌<◌, length}
use Rattle.dec_parts.specs.Rename.{origin}
use Rattle.dec_calls.specs.Inputs.{argument_of}
use Rattle.dec_calls.proofs.entering.inputs.Given as goal

-- the origins of the first variables
abbrev pub invariant-loop-v : goal.invariant-loop-v
invariant-loop-v l = (length l.origins.items ≡ l.v) × ((k : ℕ) → k < l.v → origin l.origins.items k ≡ argument_of l.args k)
