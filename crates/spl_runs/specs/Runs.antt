-- Runs of a core over integers without limit.
use Rattle.std.specs.Prelude.{◌≡◌, ℕ, ◌<◌, List, [], ◌∷◌, length, map, take, drop, slice_set, Some, ℤ}
use Rattle.spl_core.specs.declared.parts.Proc.{Proc}
use Rattle.spl_core.specs.Expression.{State, value_of, eval}
use Rattle.spl_core.specs.Condition.{May}
use Rattle.spl_core.specs.Graph.{Copy, Move, skips, assigns, havocs, tests, calls, starts, Graph, proc_of, arc_at, main_of}

-- ---- what a move does to a state

-- each copy in order
abbrev pub copied : List Copy → State → State
copied [] s = s
copied (copy ∷ copies) s = copied copies (slice_set s copy.target (value_of s copy.origin))

-- an assigned value isn't missing; a call has no step of its own within a frame
abbrev pub Flow : Move → State → State → Type 0
Flow skips s t = t ≡ s
Flow (assigns x e) s t = (y : ℤ) × (eval e s ≡ Some y) × (t ≡ slice_set s x y)
Flow (havocs x) s t = (y : ℤ) × (t ≡ slice_set s x y)
Flow (tests c wanted) s t = May c s wanted × (t ≡ s)
Flow (calls callee args targets) s t = ⊥
Flow (starts copies) s t = t ≡ copied copies s

-- the values of some dimensions, and a state in which some dimensions take these
abbrev pub values_of : State → List ℕ → List ℤ
values_of s dims = map (value_of s) dims

abbrev pub with_values : State → List ℕ → List ℤ → State
with_values s [] ys = s
with_values s (x ∷ xs) [] = s
with_values s (x ∷ xs) (y ∷ ys) = with_values (slice_set s x y) xs ys

-- ---- stacks and steps

-- a frame stands at a point with a state: an integer without limit for each dimension of the point's procedure
pub record Frame : Type 0 where
  pub point : ℕ
  pub state : State

-- the frames, top first
abbrev pub Stack : Type 0
Stack = List Frame

abbrev pub frame : ℕ → State → Frame
frame point state = record { point = point; state = state }

-- a state of the callee at its entry: its inputs are the values of the arguments, its other values are any integers
pub record Enters (p : Proc) (args : List ℕ) (s t : State) : Type 0 where
  pub dims : length t ≡ p.dims
  pub inputs : take p.inputs t ≡ values_of s args

-- the outputs in a state of the callee
abbrev pub outputs_of : Proc → State → List ℤ
outputs_of p t = take p.outputs (drop p.inputs t)

-- one step: the top frame moves over an edge, or a call pushes a frame, or at the exit of a procedure other than main
-- the top frame is popped and the one below moves over its call edge
pub data Step (g : Graph) : Stack → Stack → Type 0 where
  moves : (e : ℕ) (s t : State) (below : Stack) → e < length g.arcs → Flow (arc_at g e).move s t
      → Step g (frame (arc_at g e).source s ∷ below) (frame (arc_at g e).target t ∷ below)
  enters : (e callee : ℕ) (args targets : List ℕ) (s t : State) (below : Stack) → e < length g.arcs
      → (arc_at g e).move ≡ calls callee args targets → Enters (proc_of g callee) args s t
      → Step g (frame (arc_at g e).source s ∷ below) (frame (proc_of g callee).entry t ∷ frame (arc_at g e).source s ∷ below)
  leaves : (e callee : ℕ) (args targets : List ℕ) (s t : State) (below : Stack) → e < length g.arcs
      → (arc_at g e).move ≡ calls callee args targets
      → Step g (frame (proc_of g callee).exit t ∷ frame (arc_at g e).source s ∷ below)
      (frame (arc_at g e).target (with_values s targets (outputs_of (proc_of g callee) t)) ∷ below)

-- ---- runs

-- stacks that are joined by steps
abbrev pub Joined : Graph → Stack → List Stack → Type 0
Joined g first [] = Unit {0}
Joined g first (next ∷ stacks) = Step g first next × Joined g next stacks

-- a run: stacks joined by steps, of which the first is one frame at main's entry with any state
pub record Run (g : Graph) : Type 0 where
  pub start : State
  pub dims : length start ≡ (proc_of g (main_of g)).dims
  pub stacks : List Stack
  pub joined : Joined g (frame (proc_of g (main_of g)).entry start ∷ []) stacks

abbrev pub last_of : Stack → List Stack → Stack
last_of first [] = first
last_of first (next ∷ stacks) = last_of next stacks

-- the first stack of a run, and all of them
abbrev pub first_of : (g : Graph) → Run g → Stack
first_of g r = frame (proc_of g (main_of g)).entry r.start ∷ []

abbrev pub stacks_of : (g : Graph) → Run g → List Stack
stacks_of g r = first_of g r ∷ r.stacks

-- a run brings a state to a point: the top frame of its last stack stands there with it
pub record Brings (g : Graph) (point : ℕ) (s : State) : Type 0 where
  pub run : Run g
  pub below : Stack
  pub ends : last_of (first_of g run) run.stacks ≡ frame point s ∷ below
