-- What the call graph of a core keeps: the tables of reaching and of cut points, and the order.
use Rattle.std.specs.Prelude.{ℕ, Bool, false, List, [], length, map, slice_index_or}
use Rattle.std.specs.List.{range_with_len}
use Rattle.spl_core.specs.Graph.{Graph}
use Rattle.call_graph.specs.Reach.{reaches}
use Rattle.call_graph.specs.Order.{order, is_cut}

-- a test of two numbers below n as a table of rows
unfoldable pub square : ℕ → (ℕ → ℕ → Bool) → List (List Bool)
square n f = map (λ p. map (f p) (range_with_len 0 n)) (range_with_len 0 n)

abbrev pub bit_at : List (List Bool) → ℕ → ℕ → Bool
bit_at m p q = slice_index_or (slice_index_or m p []) q false

pub record Tables : Type 0 where
  pub reached : List (List Bool)
  pub order : List ℕ
  pub cuts : List Bool

unfoldable pub tables_of : Graph → Tables
tables_of g = record {
  reached = square (length g.procs) (reaches g);
  order = order g;
  cuts = map (is_cut g) (range_with_len 0 (length g.owners));
}
