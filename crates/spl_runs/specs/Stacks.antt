-- Stacks of the code, and contracts of their steps.
use Rattle.std.specs.Prelude.{◌≡◌, ◌≢◌, List, [], ◌∷◌, ℤ, map, reverse, Result, Ok, Err}
use Rattle.spl_core.specs.Expression.{State}
use Rattle.spl_runs.specs.declared.frame.Frame.{Frame as Held}
use Rattle.spl_runs.specs.declared.stack.Stack.{Stack as Frames}
use Rattle.spl_runs.specs.declared.frame.StepFault.{StepFault}
use Rattle.spl_runs.specs.declared.frame.StepFault.TheVariants as fault
use Rattle.spl_runs.specs.Runs.{Frame, Stack, frame}
use Rattle.spl_runs.specs.Replay.{Change, now, no_change, past, Outcome, moved, refused, wide}

abbrev pub frame_of : Held → Frame
frame_of f = frame f.point f.values.items

-- the frames below the top one: the code has the innermost last
abbrev pub frames_of : List Held → Stack
frames_of fs = reverse (map frame_of fs)

abbrev pub stack_of : Frames → Stack
stack_of s = frame_of s.top ∷ frames_of s.below.items

abbrev pub Changes : Change → Result (Unit {0}) StepFault → State → Type 0
Changes c (Ok done) new = c ≡ now new
Changes c (Err fault.NotARun) new = c ≡ no_change
Changes c (Err fault.Wide) new = c ≡ past
Changes c (Err fault.NoMemory) new = ⊥

abbrev pub Moves : Outcome → Result (Unit {0}) StepFault → Stack → Type 0
Moves o (Ok done) new = o ≡ moved new
Moves o (Err fault.NotARun) new = o ≡ refused
Moves o (Err fault.Wide) new = o ≡ wide
Moves o (Err fault.NoMemory) new = Unit {0}

abbrev pub TakesNone : List ℤ → Result (Unit {0}) StepFault → Type 0
TakesNone given (Ok done) = given ≡ []
TakesNone given (Err fault.NotARun) = given ≢ []
TakesNone given (Err fault.Wide) = ⊥
TakesNone given (Err fault.NoMemory) = ⊥
