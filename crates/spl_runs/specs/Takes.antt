-- Which choice takes which step, told by cases.
use Rattle.std.specs.Prelude.{◌≡◌, ℕ, ◌+◌, Bool, false, List, [], ◌∷◌, ◌++◌, length, slice_set, Option, None, Some, ℤ, pos}
use Rattle.spl_core.specs.Expression.{State}
use Rattle.spl_core.specs.Graph.{Move, skips, assigns, havocs, tests, calls, starts, Arc, Graph, proc_of, arcs_out}
use Rattle.spl_core.specs.GraphFacts.{IsGraph}
use Rattle.spl_runs.specs.Runs.{Flow, values_of, with_values, outputs_of, Frame, Stack, frame, Step}
use Rattle.spl_runs.specs.Choices.{Choice}
use Rattle.spl_runs.specs.Replay.{is_wide, is_wide_condition, numbered, moved, step_of}

-- what a move makes of a state with the values of a step: a random assignment has one value, and no other move has any
abbrev pub Gives : Move → State → List ℤ → State → Type 0
Gives skips s values t = (values ≡ []) × Flow skips s t
Gives (assigns x e) s values t = (values ≡ []) × Flow (assigns x e) s t
Gives (havocs x) s values t = (y : ℤ) × (values ≡ y ∷ []) × (t ≡ slice_set s x y)
Gives (tests c wanted) s values t = (values ≡ []) × Flow (tests c wanted) s t
Gives (calls callee args targets) s values t = ⊥
Gives (starts copies) s values t = (values ≡ []) × Flow (starts copies) s t

-- the edge with a number among those out of a point
abbrev pub IsEdgeOut : Graph → ℕ → ℤ → Arc → Type 0
IsEdgeOut g point number a = numbered (arcs_out g point) number ≡ Some a

-- A choice takes a stack to the next one. The top frame moves over the edge out of its point that has the number; or that
-- edge is a call, and a frame is pushed whose inputs are the arguments' values and whose other values are given; or, with
-- the number 0 and no values, the top frame is at the exit of the procedure that the edge out of the point below calls, and
-- the frame below moves over that edge.
pub data Takes (g : Graph) : Stack → Choice → Stack → Type 0 where
  moves_over : (top : Frame) (below : Stack) (choice : Choice) (a : Arc) (t : State) → IsEdgeOut g top.point choice.edge a
      → Gives a.move top.state choice.values t → Takes g (top ∷ below) choice (frame a.target t ∷ below)
  calls_in : (top : Frame) (below : Stack) (choice : Choice) (a : Arc) (callee : ℕ) (args targets : List ℕ) → IsEdgeOut g top.point choice.edge a
      → a.move ≡ calls callee args targets → length choice.values + (proc_of g callee).inputs ≡ (proc_of g callee).dims
      → Takes g (top ∷ below) choice (frame (proc_of g callee).entry (values_of top.state args ++ choice.values) ∷ top ∷ below)
  pops_back : (top caller : Frame) (below : Stack) (choice : Choice) (a : Arc) (callee : ℕ) (args targets : List ℕ) → IsEdgeOut g caller.point (pos 0) a
      → a.move ≡ calls callee args targets → (proc_of g callee).exit ≡ top.point → choice.edge ≡ pos 0 → choice.values ≡ []
      → Takes g (top ∷ caller ∷ below) choice (frame a.target (with_values caller.state targets (outputs_of (proc_of g callee) top.state)) ∷ below)

-- some part of what an edge computes is past 128 bits
abbrev pub is_wide_move : Move → State → Bool
is_wide_move skips s = false
is_wide_move (assigns x e) s = is_wide e s
is_wide_move (havocs x) s = false
is_wide_move (tests c wanted) s = is_wide_condition c s
is_wide_move (calls callee args targets) s = false
is_wide_move (starts copies) s = false

abbrev pub is_wide_over : State → Option Arc → Bool
is_wide_over s None = false
is_wide_over s (Some a) = is_wide_move a.move s

-- the same of the edge that is chosen
abbrev pub is_wide_step : Graph → Stack → Choice → Bool
is_wide_step g [] choice = false
is_wide_step g (top ∷ below) choice = is_wide_over top.state (numbered (arcs_out g top.point) choice.edge)

-- a step of a replay moves on exactly where the choice takes it there and nothing is past 128 bits
abbrev pub MovesAreTaken : Type 0
MovesAreTaken = (g : Graph) (stack next : Stack) (choice : Choice) → IsGraph g → step_of g stack choice ≡ moved next
    → Takes g stack choice next × (is_wide_step g stack choice ≡ false)

abbrev pub TakenAreMoves : Type 0
TakenAreMoves = (g : Graph) (stack next : Stack) (choice : Choice) → IsGraph g → Takes g stack choice next → is_wide_step g stack choice ≡ false
    → step_of g stack choice ≡ moved next

-- what is taken is a step of a run, and each step of a run is taken by a choice
abbrev pub TakenAreSteps : Type 0
TakenAreSteps = (g : Graph) (stack next : Stack) (choice : Choice) → IsGraph g → Takes g stack choice next → Step g stack next

abbrev pub StepsHaveChoices : Type 0
StepsHaveChoices = (g : Graph) (stack next : Stack) → IsGraph g → Step g stack next → (choice : Choice) × Takes g stack choice next
