-- The laws of reaching and of the order.
use Rattle.std.specs.Prelude.{◌≡◌, ℕ, ◌<◌, ◌↔◌, true, List, length}
use Rattle.std.specs.List.{Contains, AllPairs}
use Rattle.spl_core.specs.Graph.{Graph}
use Rattle.spl_core.specs.GraphFacts.{IsGraph}
use Rattle.call_graph.specs.Reach.{Reaches, reaches}
use Rattle.call_graph.specs.Order.{Before, order}

-- the closure by pivots says exactly where a chain of calls leads
abbrev pub ReachesIsExact : Type 0
ReachesIsExact = (g : Graph) (p q : ℕ) → IsGraph g → (reaches g p q ≡ true) ↔ Reaches g p q

-- the points of a graph, all of them and no other, each before those that follow
pub record IsOrder (g : Graph) (xs : List ℕ) : Type 0 where
  pub all : (x : ℕ) → x < length g.owners → Contains xs x
  pub only : (x : ℕ) → Contains xs x → x < length g.owners
  pub sorted : AllPairs (Before g) xs

abbrev pub OrderIsSorted : Type 0
OrderIsSorted = (g : Graph) → IsGraph g → IsOrder g (order g)
