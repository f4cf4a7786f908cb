use Rattle.std.specs.Prelude.{IfSome}
use Rattle.dec_parts.proofs.LoweredParts.{LoweredSoFar}
use Rattle.dec_parts.proofs.lower.lowered_parts.Given as goal

abbrev pub invariant-loop-c : goal.invariant-loop-c
invariant-loop-c l = IfSome l.v.blocks (λ b. LoweredSoFar l.v.dims b l.bounds l.fn.partition l.c l.matrices.items l.settled.items)
