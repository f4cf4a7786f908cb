use Rattle.std.proofs.Common.{◌≡◌, [], map, replicate}
use Rattle.equations.proofs.rows.empty_rows.Given as goal

abbrev pub invariant-loop : goal.invariant-loop
invariant-loop g l = map (λ r. r.items) l.rows.items ≡ replicate l.counter []
