-- Values at the points of which the equations bring nothing more.
use Rattle.std.specs.Prelude.{ℕ, ◌<◌, length}
use Rattle.oct_def.specs.Octagon.{Octagon}
use Rattle.oct_def.specs.Below.{IsBelow}
use Rattle.spl_core.specs.Graph.{Graph}
use Rattle.spl_core.specs.GraphFacts.{IsGraph}
use Rattle.call_graph.specs.Order.{is_cut}
use Rattle.equations.specs.Equations.{equation, read, AreSized, Covers}

-- F at a point, where cut points are read closed, is below the stored value of the point
abbrev pub IsInductiveAt : Graph → (ℕ → Octagon) → ℕ → Type 0
IsInductiveAt g x p = IsBelow (equation g (read (is_cut g) x) p) (x p)

-- this is so at each point
pub record Inductive (g : Graph) (x : ℕ → Octagon) : Type 0 where
  pub below : (p : ℕ) → p < length g.owners → IsInductiveAt g x p

-- ---- laws

-- inductive values cover every state that comes to a point, whoever made them
abbrev pub InductiveCovers : Type 0
InductiveCovers = (g : Graph) (x : ℕ → Octagon) → IsGraph g → AreSized g x → Inductive g x → Covers g x
