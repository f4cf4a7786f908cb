use Rattle.std.proofs.Common.{◌≡◌, false, replicate}
use Rattle.spl_types.proofs.walk.start.Given as goal

-- no input is a target so far
abbrev pub invariant-loop : goal.invariant-loop
invariant-loop l = l.assigned.items ≡ replicate l.counter false
