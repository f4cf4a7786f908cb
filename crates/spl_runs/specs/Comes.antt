-- Which states come to which point in which run, at any depth: told without stacks.
use Rattle.std.specs.Prelude.{◌≡◌, ℕ, ◌<◌, List, [], ◌∷◌, length, take}
use Rattle.std.specs.List.{All}
use Rattle.spl_core.specs.Expression.{State}
use Rattle.spl_core.specs.Graph.{calls, Graph, proc_of, arc_at, main_of, owner_of, dims_at}
use Rattle.spl_core.specs.GraphFacts.{IsGraph}
use Rattle.spl_runs.specs.Runs.{Flow, values_of, with_values, outputs_of, Enters, Frame, Stack, Run, stacks_of}

-- a state comes to a point: main's first state; over an edge; into a callee; back from a callee, with any state that
-- comes to the callee's exit and has the values of the arguments as its inputs
pub data Comes (g : Graph) : ℕ → State → Type 0 where
  begins : (s : State) → length s ≡ (proc_of g (main_of g)).dims → Comes g (proc_of g (main_of g)).entry s
  flows : (e : ℕ) (s t : State) → e < length g.arcs → Flow (arc_at g e).move s t → Comes g (arc_at g e).source s → Comes g (arc_at g e).target t
  goes_in : (e callee : ℕ) (args targets : List ℕ) (s t : State) → e < length g.arcs → (arc_at g e).move ≡ calls callee args targets
      → Enters (proc_of g callee) args s t → Comes g (arc_at g e).source s → Comes g (proc_of g callee).entry t
  comes_back : (e callee : ℕ) (args targets : List ℕ) (s t : State) → e < length g.arcs → (arc_at g e).move ≡ calls callee args targets
      → take (proc_of g callee).inputs t ≡ values_of s args → Comes g (arc_at g e).source s → Comes g (proc_of g callee).exit t
      → Comes g (arc_at g e).target (with_values s targets (outputs_of (proc_of g callee) t))

-- a frame's state comes to its point, and has its procedure's dimensions
pub record Stands (g : Graph) (f : Frame) : Type 0 where
  pub comes : Comes g f.point f.state
  pub dims : length f.state ≡ dims_at g f.point

-- a frame stands on another: that one is at a call of the frame's procedure, and the frame's inputs are the arguments' values there
pub record StandsOn (g : Graph) (top below : Frame) : Type 0 where
  pub edge : ℕ
  pub callee : ℕ
  pub args : List ℕ
  pub targets : List ℕ
  pub in_range : edge < length g.arcs
  pub source : (arc_at g edge).source ≡ below.point
  pub move : (arc_at g edge).move ≡ calls callee args targets
  pub owner : owner_of g top.point ≡ callee
  pub inputs : take (proc_of g callee).inputs top.state ≡ values_of below.state args

abbrev pub StandsOver : Graph → Frame → Stack → Type 0
StandsOver g top [] = Unit {0}
StandsOver g top (f ∷ below) = StandsOn g top f

abbrev pub AllStand : Graph → Stack → Type 0
AllStand g [] = Unit {0}
AllStand g (f ∷ below) = Stands g f × StandsOver g f below × AllStand g below

-- in every run, every frame of every stack stands
abbrev pub RunsAreSound : Type 0
RunsAreSound = (g : Graph) → IsGraph g → (r : Run g) → All (AllStand g) (stacks_of g r)
