use Rattle.std.proofs.Common.{◌≡◌, length, map}
use Rattle.std.specs.List.{filter, range_with_len}
use Rattle.spl_core.specs.Graph.{graph_of}
use Rattle.equations.specs.Sources.{is_reader}
use Rattle.equations.proofs.reading.reader_lists.Given as goal

abbrev pub invariant-loop-q : goal.invariant-loop-q
invariant-loop-q l = map (λ v. v.items) l.rows.items ≡ map (λ p. filter (is_reader (graph_of l.core) p) (range_with_len 0 l.q)) (range_with_len 0 (length l.core.owners))
