use Rattle.std.proofs.Common.{◌≡◌, ◌++◌, [], ◌∷◌, cond, length, map, take}
use Rattle.std.specs.List.{list_any, filter, range_with_len}
use Rattle.spl_core.specs.Graph.{graph_of}
use Rattle.equations.specs.Sources.{is_read_by, is_reader}
use Rattle.equations.proofs.reading.add_reader.Given as goal

abbrev pub invariant-loop-source : goal.invariant-loop-source
invariant-loop-source l =
    map (λ v. v.items) l.rows
    ≡ map (λ p. filter (is_reader (graph_of l.core) p) (range_with_len 0 l.q) ++ cond (list_any (is_read_by (graph_of l.core) p) (take l.source-index l.found)) (l.q ∷ []) [])
    (range_with_len 0 (length l.core.owners))
