use Rattle.std.proofs.Common.{◌≡◌, ◌++◌}
use Rattle.std.specs.List.{flat_map, range_with_len}
use Rattle.report.specs.Listed.{matrix_at, listed_pair}
use Rattle.report.proofs.listing.list_variable.Given as goal

-- The pairs so far stand behind what was there.
abbrev pub invariant-loop-u : goal.invariant-loop-u
invariant-loop-u g l =
    l.out.items ≡ l.fn.out.items ++ flat_map (listed_pair l.full (matrix_at (g.D.Domain.meaning l.value)) l.v) (range_with_len 0 l.u)
