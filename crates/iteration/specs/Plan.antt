-- What the code of the analysis works on.
use Rattle.std.specs.Prelude.{◌≡◌}
use Rattle.spl_core.specs.Parts.{Parts}
use Rattle.spl_core.specs.Facts.{IsCore}
use Rattle.spl_core.specs.Graph.{graph_of}
use Rattle.call_graph.specs.Tables.{Tables, tables_of}
use Rattle.equations.specs.Table.{Table, table_of}

-- the call graph, the sources and the readers are those of the core
pub record IsPlan (c : Parts) (tables : Tables) (table : Table) : Type 0 where
  pub core : IsCore c
  pub graph : tables ≡ tables_of (graph_of c)
  pub sources : table ≡ table_of (graph_of c)
