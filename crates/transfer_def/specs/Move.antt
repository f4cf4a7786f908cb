-- What an edge does to a value.
use Rattle.std.specs.Prelude.{ℕ, ◌<◌, List, [], ◌∷◌}
use Rattle.std.specs.List.{All}
use Rattle.oct_def.specs.Octagon.{Octagon, bottom_value}
use Rattle.spl_core.specs.Expression.{Variable, IsOver}
use Rattle.spl_core.specs.Condition.{IsConditionOver}
use Rattle.spl_core.specs.Graph.{Copy, Move, skips, assigns, havocs, tests, calls, starts}
use Rattle.transfer_def.specs.Assign.{assign_value}
use Rattle.transfer_def.specs.Forget.{forget_value}
use Rattle.transfer_def.specs.Test.{test_value}

-- a value after copies in order, each an assignment of a variable
unfoldable pub copy_value : List Copy → Octagon → Octagon
copy_value [] v = v
copy_value (c ∷ copies) v = copy_value copies (assign_value c.target (Variable c.origin) v)

-- a value after a move; no state flows by a call, whose effect is that of entering and returning
abbrev pub move_value : Move → Octagon → Octagon
move_value skips v = v
move_value (assigns x e) v = assign_value x e v
move_value (havocs x) v = forget_value x v
move_value (tests c wanted) v = test_value c wanted v
move_value (calls callee args targets) v = bottom_value v.dims
move_value (starts copies) v = copy_value copies v

-- a copy between two of the first n variables
pub record IsCopyOver (n : ℕ) (c : Copy) : Type 0 where
  pub target : c.target < n
  pub origin : c.origin < n

-- each variable that a move names is one of the first n ones
abbrev pub IsMoveOver : ℕ → Move → Type 0
IsMoveOver n skips = Unit {0}
IsMoveOver n (assigns x e) = (x < n) × IsOver n e
IsMoveOver n (havocs x) = x < n
IsMoveOver n (tests c wanted) = IsConditionOver n c
IsMoveOver n (calls callee args targets) = All (λ v. v < n) args × All (λ v. v < n) targets
IsMoveOver n (starts copies) = All (IsCopyOver n) copies
