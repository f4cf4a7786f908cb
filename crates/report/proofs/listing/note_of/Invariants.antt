use Rattle.std.proofs.Common.{◌≡◌, ◌++◌, []}
use Rattle.std.specs.List.{flat_map, range_with_len}
use Rattle.report.specs.Listed.{matrix_at, listed_variable}
use Rattle.report.proofs.listing.note_of.Given as goal

-- The variables so far are listed.
abbrev pub invariant-loop-v : goal.invariant-loop-v
invariant-loop-v g l = l.constraints.items ≡ [] ++ flat_map (listed_variable l.full (matrix_at (g.D.Domain.meaning l.value))) (range_with_len 0 l.v)
