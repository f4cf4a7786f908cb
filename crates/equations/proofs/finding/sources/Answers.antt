use Rattle.std.proofs.Common.{map, List, length, ℕ, ap, ◌∙◌}
use Rattle.std.specs.List.{range_with_len}
use Rattle.spl_core.specs.Graph.{graph_of}
use Rattle.equations.specs.declared.source.Source.{Source}
use Rattle.equations.specs.Sources.{sources}
use Rattle.equations.specs.Table.{table_of}
use Rattle.equations.proofs.finding.sources.Goals as goal

pub returns : goal.returns
unfolding table_of graph_of
returns c =
    ap (λ (ls : List (List Source)). record { lists = ls; readers = map (λ v. v.items) c.in_ok-readers.readers.items }) c.in_ok-lists.ensures
    ∙ ap (λ (rs : List (List ℕ)). record { lists = map (sources (graph_of c.args.core.now)) (range_with_len 0 (length c.args.core.now.owners)); readers = rs }) c.in_ok-readers.ensures
