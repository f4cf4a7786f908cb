-- What a verdict on values at the points of a graph says.
use Rattle.std.specs.Prelude.{◌≡◌, ℕ, ◌<◌, List, length}
use Rattle.oct_def.specs.Octagon.{Octagon}
use Rattle.spl_core.specs.Graph.{Graph, dims_at}
use Rattle.call_graph.specs.Order.{is_cut}
use Rattle.equations.specs.Equations.{read, value_in}
use Rattle.equations.specs.Inductive.{IsInductiveAt, Inductive}
use Rattle.inv_check.specs.declared.verdict.Verdict.{Verdict}
use Rattle.inv_check.specs.declared.verdict.Verdict.TheVariants.{Holds, Fails}

-- the least point at which F isn't below the value
pub record FailsAt (g : Graph) (x : ℕ → Octagon) (p : ℕ) : Type 0 where
  pub point : p < length g.owners
  pub breaks : IsInductiveAt g x p → ⊥
  pub least : (q : ℕ) → q < p → IsInductiveAt g x q

-- the values are inductive, or this is the least point that breaks it
abbrev pub IsVerdict : Graph → (ℕ → Octagon) → Verdict → Type 0
IsVerdict g x Holds = Inductive g x
IsVerdict g x (Fails p) = FailsAt g x p

-- a value for each point, of its dimensions
pub record AreOver (g : Graph) (values : List Octagon) : Type 0 where
  pub points : length values ≡ length g.owners
  pub dims : (p : ℕ) → p < length g.owners → (value_in values p).dims ≡ dims_at g p

-- the first so many values as they are read
pub record AreReadUpTo (g : Graph) (values : List Octagon) (p : ℕ) (closed : List Octagon) : Type 0 where
  pub count : length closed ≡ p
  pub same : (k : ℕ) → k < p → value_in closed k ≡ read (is_cut g) (value_in values) k
