use Rattle.std.proofs.Common.{◌≡◌, length, map, take}
use Rattle.std.specs.List.{range_with_len}
use Rattle.spl_runs.specs.Leaving.{leaving}
use Rattle.spl_runs.proofs.leaving.edges_out.Given as goal

abbrev pub invariant-loop-e : goal.invariant-loop-e
invariant-loop-e l = map (λ v. v.items) l.lists.items ≡ map (leaving (take l.e l.core.edges)) (range_with_len 0 (length l.core.owners))
