use Rattle.std.proofs.Common.{◌≡◌, ℕ, ◌<◌, Some}
use Rattle.block_partition.specs.Partition.{member}
use Rattle.dec_parts.specs.Rename.{origin}
use Rattle.dec_parts.proofs.rename.keep_numbers.Given as goal

abbrev pub invariant-loop-i : goal.invariant-loop-i
invariant-loop-i l = (k : ℕ) → k < l.i → origin l.origins (member l.members k) ≡ Some (member l.members k)
