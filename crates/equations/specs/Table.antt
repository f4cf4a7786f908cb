-- What is kept for each point of a core: its sources, and the points that read it.
use Rattle.std.specs.Prelude.{ℕ, List, length, map}
use Rattle.std.specs.List.{range_with_len}
use Rattle.spl_core.specs.Graph.{Graph}
use Rattle.equations.specs.declared.source.Source.{Source}
use Rattle.equations.specs.Sources.{sources, readers}

pub record Table : Type 0 where
  pub lists : List (List Source)
  pub readers : List (List ℕ)

unfoldable pub table_of : Graph → Table
table_of g = record {
  lists = map (sources g) (range_with_len 0 (length g.owners));
  readers = map (readers g) (range_with_len 0 (length g.owners));
}
