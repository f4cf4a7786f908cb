use Rattle.std.proofs.Common.{◌≡◌, ◌≤◌, ◌||◌, eqb, false, get_or}
use Rattle.std.specs.List.{count_by, range_with_len}
use Rattle.call_graph.proofs.ordering.count_reached.Given as goal

abbrev pub invariant-loop-q : goal.invariant-loop-q
invariant-loop-q l = (l.count ≡ count_by (λ q. eqb q l.p || get_or l.row q false) (range_with_len 0 l.q)) × (l.count ≤ l.q)
