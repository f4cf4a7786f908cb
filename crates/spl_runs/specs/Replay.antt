-- What choices do to a stack: the next stack, or why there is none. The state of a frame has integers without limit.
use Rattle.std.specs.Prelude.{ℕ, ◌+◌, Bool, true, false, not, ◌&&◌, ◌||◌, nat_eq, if◌then◌else◌, List, [], ◌∷◌, ◌++◌, length, fold, slice_get, slice_set, Option, None, Some, ℤ, pos, negsuc}
use Rattle.spl_core.specs.declared.parts.Proc.{Proc}
use Rattle.spl_core.specs.Expression.{Expression, Number, Variable, Neg, Add, Sub, Mul, Div, Rem, State, eval}
use Rattle.spl_core.specs.Condition.{Condition, Constant, Random, Not, And, Or, Compare, comparison}
use Rattle.spl_core.specs.Graph.{Move, skips, assigns, havocs, tests, calls, starts, Arc, Graph, proc_of, main_of, arcs_out}
use Rattle.spl_runs.specs.Runs.{copied, values_of, with_values, outputs_of, Frame, frame, Stack}
use Rattle.spl_runs.specs.Choices.{Choice, Given}
use Rattle.spl_runs.specs.Word.{fits}

-- ---- values past 128 bits

-- a value is past 128 bits; a missing one isn't
abbrev pub is_past : Option ℤ → Bool
is_past None = false
is_past (Some x) = not (fits x)

-- some part of an expression, the whole included, has a value past 128 bits
abbrev pub is_wide : Expression → State → Bool
is_wide (Number k) s = is_past (eval (Number k) s)
is_wide (Variable v) s = is_past (eval (Variable v) s)
is_wide (Neg a) s = is_wide a s || is_past (eval (Neg a) s)
is_wide (Add a b) s = is_wide a s || (is_wide b s || is_past (eval (Add a b) s))
is_wide (Sub a b) s = is_wide a s || (is_wide b s || is_past (eval (Sub a b) s))
is_wide (Mul a b) s = is_wide a s || (is_wide b s || is_past (eval (Mul a b) s))
is_wide (Div a b) s = is_wide a s || (is_wide b s || is_past (eval (Div a b) s))
is_wide (Rem a b) s = is_wide a s || (is_wide b s || is_past (eval (Rem a b) s))

-- some part of a condition has a value past 128 bits: an operand of `and` or `or` that can't matter counts too
abbrev pub is_wide_condition : Condition → State → Bool
is_wide_condition (Constant value) s = false
is_wide_condition Random s = false
is_wide_condition (Not c) s = is_wide_condition c s
is_wide_condition (And c d) s = is_wide_condition c s || is_wide_condition d s
is_wide_condition (Or c d) s = is_wide_condition c s || is_wide_condition d s
is_wide_condition (Compare r a b) s = is_wide a s || is_wide b s

-- ---- whether a condition may come out so

abbrev pub same_bool : Bool → Bool → Bool
same_bool true b = b
same_bool false b = not b

-- a comparison comes out as wanted; neither way where it's missing
abbrev pub comes_out : Option Bool → Bool → Bool
comes_out None wanted = false
comes_out (Some b) wanted = same_bool b wanted

abbrev pub may : Condition → State → Bool → Bool
may (Constant value) s b = same_bool value b
may Random s b = true
may (Not c) s b = may c s (not b)
may (And c d) s true = may c s true && may d s true
may (And c d) s false = may c s false || may d s false
may (Or c d) s true = may c s true || may d s true
may (Or c d) s false = may c s false && may d s false
may (Compare r a b) s wanted = comes_out (comparison r (eval a s) (eval b s)) wanted

-- ---- one step within a frame

-- the next state; or there's no such step; or a value is past 128 bits
pub data Change : Type 0 where
  now : State → Change
  no_change : Change
  past : Change

abbrev pub no_values : List ℤ → Change → Change
no_values [] c = c
no_values (y ∷ ys) c = no_change

abbrev pub one_value : List ℤ → State → ℕ → Change
one_value [] s x = no_change
one_value (y ∷ []) s x = now (slice_set s x y)
one_value (y ∷ z ∷ ys) s x = no_change

-- a missing value can't be assigned
abbrev pub assigned_to : ℕ → State → Option ℤ → Change
assigned_to x s None = no_change
assigned_to x s (Some y) = now (slice_set s x y)

abbrev pub assigned : Expression → ℕ → State → Change
assigned e x s = if is_wide e s then past else assigned_to x s (eval e s)

abbrev pub tested : Condition → Bool → State → Change
tested c wanted s = if is_wide_condition c s then past else (if may c s wanted then now s else no_change)

-- a random assignment takes one value, and no other edge within a frame takes one; a call has no step within a frame
abbrev pub changed : Move → State → List ℤ → Change
changed skips s values = no_values values (now s)
changed (assigns x e) s values = no_values values (assigned e x s)
changed (havocs x) s values = one_value values s x
changed (tests c wanted) s values = no_values values (tested c wanted s)
changed (calls callee args targets) s values = no_change
changed (starts copies) s values = no_values values (now (copied copies s))

-- ---- one step

-- the next stack; or there's no such step; or a value is past 128 bits
pub data Outcome : Type 0 where
  moved : Stack → Outcome
  refused : Outcome
  wide : Outcome

abbrev pub moved_to : ℕ → Stack → Change → Outcome
moved_to target below (now t) = moved (frame target t ∷ below)
moved_to target below no_change = refused
moved_to target below past = wide

-- a call pushes a frame at the callee's entry, whose inputs are the arguments' values and whose other values are given
abbrev pub entered : Proc → List ℕ → Frame → Stack → List ℤ → Outcome
entered callee args top below values =
    if nat_eq (length values + callee.inputs) callee.dims
    then moved (frame callee.entry (values_of top.state args ++ values) ∷ top ∷ below) else refused

-- over an edge, from the frame at its source
abbrev pub over : Graph → ℕ → Move → Frame → Stack → List ℤ → Outcome
over g target (calls callee args targets) top below values = entered (proc_of g callee) args top below values
over g target skips top below values = moved_to target below (changed skips top.state values)
over g target (assigns x e) top below values = moved_to target below (changed (assigns x e) top.state values)
over g target (havocs x) top below values = moved_to target below (changed (havocs x) top.state values)
over g target (tests c wanted) top below values = moved_to target below (changed (tests c wanted) top.state values)
over g target (starts copies) top below values = moved_to target below (changed (starts copies) top.state values)

abbrev pub numbered : {X : Type 0} → List X → ℤ → Option X
numbered xs (pos n) = slice_get xs n
numbered xs (negsuc n) = None

abbrev pub over_some : Graph → Frame → Stack → List ℤ → Option Arc → Outcome
over_some g top below values None = refused
over_some g top below values (Some a) = over g a.target a.move top below values

-- over the edge with the given number among the edges out of the top frame's point
abbrev pub advanced : Graph → Frame → Stack → Choice → Outcome
advanced g top below choice = over_some g top below choice.values (numbered (arcs_out g top.point) choice.edge)

-- the call edge out of a caller's point, if the procedure that it calls has its exit at the top frame's point
abbrev pub if_called : Graph → ℕ → Arc → Move → Option Arc
if_called g point a (calls callee args targets) = if nat_eq (proc_of g callee).exit point then Some a else None
if_called g point a skips = None
if_called g point a (assigns x e) = None
if_called g point a (havocs x) = None
if_called g point a (tests c wanted) = None
if_called g point a (starts copies) = None

abbrev pub if_some_called : Graph → ℕ → Option Arc → Option Arc
if_some_called g point None = None
if_some_called g point (Some a) = if_called g point a a.move

abbrev pub return_edge : Graph → Frame → Stack → Option Arc
return_edge g top [] = None
return_edge g top (caller ∷ below) = if_some_called g top.point (slice_get (arcs_out g caller.point) 0)

-- the frame below moves over its call edge: the targets take the outputs
abbrev pub left_over : Graph → Frame → Frame → Stack → ℕ → Move → Outcome
left_over g top caller below target (calls callee args targets) = moved (frame target (with_values caller.state targets (outputs_of (proc_of g callee) top.state)) ∷ below)
left_over g top caller below target skips = refused
left_over g top caller below target (assigns x e) = refused
left_over g top caller below target (havocs x) = refused
left_over g top caller below target (tests c wanted) = refused
left_over g top caller below target (starts copies) = refused

abbrev pub left : Graph → Frame → Stack → Arc → Outcome
left g top [] a = refused
left g top (caller ∷ below) a = left_over g top caller below a.target a.move

abbrev pub is_zero : ℤ → Bool
is_zero (pos n) = nat_eq n 0
is_zero (negsuc n) = false

-- the step that pops is `0` without values
abbrev pub if_pop : Choice → Outcome → Outcome
if_pop choice o = if is_zero choice.edge && nat_eq (length choice.values) 0 then o else refused

abbrev pub step_by : Graph → Frame → Stack → Choice → Option Arc → Outcome
step_by g top below choice None = advanced g top below choice
step_by g top below choice (Some a) = if_pop choice (left g top below a)

-- One step from a stack. At the exit of the procedure that the frame below calls, the top frame is popped; elsewhere it
-- moves over an edge. No edge leaves the exit of a procedure, so at main's exit there's no step.
abbrev pub step_of : Graph → Stack → Choice → Outcome
step_of g [] choice = refused
step_of g (top ∷ below) choice = step_by g top below choice (return_edge g top below)

-- ---- all steps

-- the top frame of a stack, and how many frames there are
pub record Top : Type 0 where
  pub point : ℕ
  pub depth : ℕ
  pub values : State

abbrev pub top_of : Stack → Top
top_of [] = record { point = 0; depth = 0; values = [] }
top_of (top ∷ below) = record { point = top.point; depth = length (top ∷ below); values = top.state }

-- the top frames so far with the last stack; or the number of the first step that is none or is wide
pub data Replay : Type 0 where
  ran : List Top → Stack → Replay
  not_a_run : ℕ → Replay
  too_wide : ℕ → Replay

-- the step after k stacks is step k; the start line is step 0
abbrev pub after : List Top → Outcome → Replay
after tops (moved next) = ran (tops ++ top_of next ∷ []) next
after tops refused = not_a_run (length tops)
after tops wide = too_wide (length tops)

abbrev pub continued : Graph → Replay → Choice → Replay
continued g (ran tops stack) choice = after tops (step_of g stack choice)
continued g (not_a_run k) choice = not_a_run k
continued g (too_wide k) choice = too_wide k

-- one frame at main's entry with the given values, one for each dimension of main
abbrev pub begun : Graph → List ℤ → Replay
begun g values =
    if nat_eq (length values) (proc_of g (main_of g)).dims
    then ran (top_of (frame (proc_of g (main_of g)).entry values ∷ []) ∷ []) (frame (proc_of g (main_of g)).entry values ∷ [])
    else not_a_run 0

abbrev pub replayed : Graph → Given → Replay
replayed g given = fold (continued g) (begun g given.start) given.steps
