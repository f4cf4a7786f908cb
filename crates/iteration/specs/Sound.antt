-- What is read at the points in the end holds of every run.
use Rattle.std.specs.Prelude.{◌≡◌, ℕ, [], ◌∷◌, None}
use Rattle.std.specs.List.{All}
use Rattle.oct_def.specs.Octagon.{Octagon, MeetsOctagon}
use Rattle.spl_core.specs.Expression.{State}
use Rattle.spl_core.specs.Graph.{Graph}
use Rattle.spl_core.specs.GraphFacts.{IsGraph}
use Rattle.spl_runs.specs.Runs.{Stack, Run, Brings, stacks_of}
use Rattle.spl_runs.specs.Comes.{Stands, StandsOver}
use Rattle.iteration.specs.Solved.{read_of}

-- each frame of a stack meets the value at its point, and stands on the frame below as its call says
abbrev pub AllMeet : Graph → (ℕ → Octagon) → Stack → Type 0
AllMeet g x [] = Unit {0}
AllMeet g x (f ∷ below) = MeetsOctagon f.state (x f.point) × Stands g f × StandsOver g f below × AllMeet g x below

-- for every delay and every descent: in every run every frame of every stack meets what is read at its point; so does a
-- state that a run brings to a point, and to a point with Bottom no run brings one
pub record IsSound (g : Graph) (delay descend : ℕ) : Type 0 where
  pub frames : (r : Run g) → All (AllMeet g (read_of g delay descend)) (stacks_of g r)
  pub states : (p : ℕ) (s : State) → Brings g p s → MeetsOctagon s (read_of g delay descend p)
  pub bottom : (p : ℕ) (s : State) → (read_of g delay descend p).matrix ≡ None → Brings g p s → ⊥

abbrev pub AnalysesAreSound : Type 0
AnalysesAreSound = (g : Graph) (delay descend : ℕ) → IsGraph g → IsSound g delay descend
