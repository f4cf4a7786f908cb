-- What the moves of a core, calls and returns promise on values.
use Rattle.std.specs.Prelude.{◌≡◌, ℕ, ◌+◌, ◌<◌, ◌≤◌, List, length, take, drop}
use Rattle.std.specs.List.{All}
use Rattle.oct_def.specs.Octagon.{Octagon, MeetsOctagon, IsOctagon, bottom_value}
use Rattle.spl_core.specs.declared.parts.Proc.{Proc}
use Rattle.spl_core.specs.Expression.{State}
use Rattle.spl_core.specs.Facts.{AreDistinct}
use Rattle.spl_core.specs.Graph.{Move}
use Rattle.spl_core.specs.GraphFacts.{MoveFits}
use Rattle.spl_runs.specs.Runs.{Flow, values_of, with_values}
use Rattle.transfer_def.specs.Move.{move_value, IsMoveOver}
use Rattle.transfer_def.specs.Enter.{enter_value}
use Rattle.transfer_def.specs.Back.{back_value}

-- where a state meets a value and flows by a move, its successor meets the value after the move
abbrev pub StepIsSound : Type 0
StepIsSound =
    (move : Move) (v : Octagon) (s t : State)
    → length s ≡ v.dims
    → IsMoveOver v.dims move
    → Flow move s t
    → MeetsOctagon s v
    → MeetsOctagon t (move_value move v)

-- the moves of a core's procedure are over its variables
abbrev pub MovesAreOver : Type 0
MovesAreOver = (procs : List Proc) (p : Proc) (move : Move) → MoveFits procs p move → IsMoveOver p.dims move

-- where a state meets a value, each state whose inputs are the values of the arguments meets the value at the entry
abbrev pub EnterIsSound : Type 0
EnterIsSound =
    (args : List ℕ) (dims : ℕ) (v : Octagon) (s t : State)
    → take (length args) t ≡ values_of s args
    → MeetsOctagon s v
    → MeetsOctagon t (enter_value v args dims)

-- where s meets the caller's value and e the exit's, and e's inputs are the values of the arguments in s, the state s with
-- its targets set to e's outputs meets the value after the call; arguments may repeat, and may be targets
abbrev pub BackIsSound : Type 0
BackIsSound =
    (args targets : List ℕ) (outputs : ℕ) (caller exit : Octagon) (s e : State)
    → length s ≡ caller.dims
    → length args + outputs ≤ length e
    → length targets ≡ outputs
    → All (λ x. x < caller.dims) args
    → AreDistinct targets
    → take (length args) e ≡ values_of s args
    → MeetsOctagon s caller
    → MeetsOctagon e exit
    → MeetsOctagon (with_values s targets (take outputs (drop (length args) e))) (back_value caller exit args outputs targets)

-- ---- values

-- a move gives a value where it is given one, over as many variables
abbrev pub MoveGivesValue : Type 0
MoveGivesValue = (move : Move) (v : Octagon) → IsOctagon v → IsOctagon (move_value move v)

abbrev pub MoveKeepsDims : Type 0
MoveKeepsDims = (move : Move) (v : Octagon) → (move_value move v).dims ≡ v.dims

-- a call and a return give values where they are given values
abbrev pub EnterGivesValue : Type 0
EnterGivesValue = (v : Octagon) (args : List ℕ) (dims : ℕ) → IsOctagon v → IsOctagon (enter_value v args dims)

abbrev pub BackGivesValue : Type 0
BackGivesValue =
    (caller exit : Octagon) (args : List ℕ) (outputs : ℕ) (targets : List ℕ)
    → length targets ≡ outputs
    → IsOctagon caller
    → IsOctagon exit
    → IsOctagon (back_value caller exit args outputs targets)

-- ---- Bottom

-- Bottom goes to Bottom by a move, by a call, and by a return from either side
abbrev pub MoveOfBottom : Type 0
MoveOfBottom = (move : Move) (n : ℕ) → move_value move (bottom_value n) ≡ bottom_value n

abbrev pub EnterOfBottom : Type 0
EnterOfBottom = (n : ℕ) (args : List ℕ) (dims : ℕ) → enter_value (bottom_value n) args dims ≡ bottom_value dims

abbrev pub BackOfBottomCaller : Type 0
BackOfBottomCaller =
    (n : ℕ) (exit : Octagon) (args : List ℕ) (outputs : ℕ) (targets : List ℕ)
    → back_value (bottom_value n) exit args outputs targets ≡ bottom_value n

abbrev pub BackOfBottomExit : Type 0
BackOfBottomExit =
    (caller : Octagon) (n : ℕ) (args : List ℕ) (outputs : ℕ) (targets : List ℕ)
    → back_value caller (bottom_value n) args outputs targets ≡ bottom_value caller.dims
