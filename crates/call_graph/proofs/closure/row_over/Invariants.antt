use Rattle.std.proofs.Common.{◌≡◌, map, get_or, false}
use Rattle.std.specs.List.{range_with_len}
use Rattle.call_graph.specs.Steps.{bit_over}
use Rattle.call_graph.proofs.closure.row_over.Given as goal

abbrev pub invariant-loop-q : goal.invariant-loop-q
invariant-loop-q l = l.out.items ≡ map (bit_over l.row l.pivot (get_or l.row l.k false)) (range_with_len 0 l.q)
