-- What is over the dimensions of an environment. Bottom says nothing.
use Rattle.std.specs.Prelude.{ℕ, ◌<◌, length, Some, None}
use Rattle.spl_core.specs.Expression.{Expression, IsOver}
use Rattle.spl_core.specs.Condition.{Condition, IsConditionOver}
use Rattle.spl_core.specs.Graph.{Move, skips, assigns, havocs, tests, calls, starts}
use Rattle.conc_analysis.specs.Environment.{Environment}

-- an expression names dimensions of the environment alone
abbrev pub IsExpressionIn : Environment → Expression → Type 0
IsExpressionIn None e = Unit {0}
IsExpressionIn (Some ranges) e = IsOver (length ranges) e

-- and a condition
abbrev pub IsConditionIn : Environment → Condition → Type 0
IsConditionIn None c = Unit {0}
IsConditionIn (Some ranges) c = IsConditionOver (length ranges) c

-- what a move reads is over the environment
abbrev pub IsMoveIn : Environment → Move → Type 0
IsMoveIn v skips = Unit {0}
IsMoveIn v (assigns x e) = IsExpressionIn v e
IsMoveIn v (havocs x) = Unit {0}
IsMoveIn v (tests c wanted) = IsConditionIn v c
IsMoveIn v (calls callee args targets) = Unit {0}
IsMoveIn v (starts copies) = Unit {0}
