use Rattle.std.proofs.Common.{◌≡◌, ◌*◌, length, drop}
use Rattle.dec_parts.specs.Joined.{with_all_taken}
use Rattle.dec_parts.proofs.lower.take_all.Given as goal

abbrev pub invariant-loop-k : goal.invariant-loop-k
invariant-loop-k l = (length l.m ≡ 2 * length l.members) × (with_all_taken l.members l.m (drop l.k l.bounds) ≡ with_all_taken l.members l.fn.m l.bounds)
