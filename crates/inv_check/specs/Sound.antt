-- Inductive invariants hold of every run.
use Rattle.std.specs.Prelude.{◌≡◌, ℕ, [], ◌∷◌, Option, None, List}
use Rattle.std.specs.List.{All}
use Rattle.oct_def.specs.Table.{Matrix}
use Rattle.oct_def.specs.Matrix.{MeetsValue}
use Rattle.spl_core.specs.Expression.{State}
use Rattle.spl_core.specs.Graph.{Graph}
use Rattle.spl_core.specs.GraphFacts.{IsGraph}
use Rattle.spl_runs.specs.Runs.{Stack, Run, Brings, stacks_of}
use Rattle.spl_runs.specs.Comes.{Stands, StandsOver}
use Rattle.equations.specs.Inductive.{Inductive}
use Rattle.inv_text.specs.Invariants.{matrix_in, AreInvariants}
use Rattle.inv_check.specs.Given.{dims_of, value_given}

-- each frame of a stack meets what is given for its point, and stands on the frame below as its call says
abbrev pub AllMeet : Graph → List (Option Matrix) → Stack → Type 0
AllMeet g x [] = Unit {0}
AllMeet g x (f ∷ below) = MeetsValue f.state (matrix_in x f.point) × Stands g f × StandsOver g f below × AllMeet g x below

-- in every run every frame of every stack meets what is given for its point; so does a state that a run brings to a point,
-- and to a point with Bottom no run brings one
pub record HoldOfRuns (g : Graph) (x : List (Option Matrix)) : Type 0 where
  pub frames : (r : Run g) → All (AllMeet g x) (stacks_of g r)
  pub states : (p : ℕ) (s : State) → Brings g p s → MeetsValue s (matrix_in x p)
  pub bottom : (p : ℕ) (s : State) → matrix_in x p ≡ None → Brings g p s → ⊥

-- whoever made them, and however: inductive invariants of a graph hold of every run
abbrev pub InductiveHolds : Type 0
InductiveHolds = (g : Graph) (x : List (Option Matrix)) → IsGraph g → AreInvariants (dims_of g) x → Inductive g (value_given g x) → HoldOfRuns g x
