-- A solution of the analysis of a graph, for some delay and some descent.
use Rattle.std.specs.Prelude.{ℕ}
use Rattle.spl_core.specs.Graph.{Graph}
use Rattle.iteration.specs.Solution.{Solution, IsSolution}

pub record IsSolvedFor (g : Graph) (s : Solution) : Type 0 where
  pub delay : ℕ
  pub descend : ℕ
  pub solution : IsSolution g delay descend s
