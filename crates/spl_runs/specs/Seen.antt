-- Top frames as the code has them, and what a replay answers.
use Rattle.std.specs.Prelude.{◌≡◌, ℕ, List, [], ◌∷◌, Option, None, Some, Result, Ok, Err}
use Rattle.std.specs.declared.alloc.AllocError.{AllocError}
use Rattle.spl_runs.specs.declared.follow.Seen.{Seen}
use Rattle.spl_runs.specs.declared.follow.ReplayFault.{ReplayFault}
use Rattle.spl_runs.specs.declared.follow.ReplayFault.TheVariants as fault
use Rattle.spl_runs.specs.declared.frame.Frame.{Frame as Held}
use Rattle.spl_runs.specs.declared.stack.Stack.{Stack as Frames}
use Rattle.spl_runs.specs.Runs.{Stack}
use Rattle.spl_runs.specs.Replay.{Top, Replay, ran, not_a_run, too_wide}
use Rattle.spl_runs.specs.Stacks.{stack_of}

abbrev pub top_seen : Seen → Top
top_seen s = record { point = s.point; depth = s.depth; values = s.values.items }

abbrev pub top_held : Held → ℕ → Top
top_held f depth = record { point = f.point; depth = depth; values = f.values.items }

-- the top frames of the run; or the number of the first step with a fault, and which it is
abbrev pub Replays : Replay → Result (List Top) ReplayFault → Type 0
Replays r (Ok tops) = (stack : Stack) × (r ≡ ran tops stack)
Replays r (Err (fault.NotARun k)) = r ≡ not_a_run k
Replays r (Err (fault.Wide k)) = r ≡ too_wide k
Replays r (Err fault.NoMemory) = Unit {0}

-- the first stack
abbrev pub Begins : Replay → Result (Option Frames) AllocError → Type 0
Begins r (Ok (Some stack)) = (r ≡ ran (top_held stack.top 1 ∷ []) (stack_of stack)) × (stack.below.items ≡ [])
Begins r (Ok None) = r ≡ not_a_run 0
Begins r (Err no_memory) = Unit {0}
