use Rattle.dec_parts.specs.Joined.{IsJoinedBy}
use Rattle.dec_parts.proofs.lower.joined_by.Given as goal

abbrev pub invariant-loop-k : goal.invariant-loop-k
invariant-loop-k l = IsJoinedBy l.dims l.partition l.bounds l.k l.joined
