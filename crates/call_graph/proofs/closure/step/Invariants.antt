use Rattle.std.proofs.Common.{◌≡◌, map}
use Rattle.std.specs.List.{range_with_len}
use Rattle.call_graph.specs.Steps.{row_over}
use Rattle.call_graph.proofs.closure.step.Given as goal

abbrev pub invariant-loop-p : goal.invariant-loop-p
invariant-loop-p l = map (λ v. v.items) l.out.items ≡ map (row_over (map (λ v. v.items) l.rows) l.k) (range_with_len 0 l.p)
