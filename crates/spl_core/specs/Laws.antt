-- What each number of a core stands for, by its own node: the case of the node over what its children stand for; the literals
-- of a core; and that quotients are truncated toward zero.
use Rattle.std.specs.Prelude.{◌≡◌, ◌≢◌, ℕ, ◌<◌, ◌≤◌, length, slice_index_or, ℤ, pos, ◌*ℤ◌, nat_abs}
use Rattle.std.specs.List.{All}
use Rattle.spl_core.specs.declared.parts.CoreExpr.{CoreExpr}
use Rattle.spl_core.specs.declared.parts.CoreCond.{CoreCond}
use Rattle.spl_core.specs.Parts.{Parts}
use Rattle.spl_core.specs.Expression.{IsLimited, divided, left_over}
use Rattle.spl_core.specs.Condition.{IsConditionLimited}
use Rattle.spl_core.specs.Facts.{IsCore}
use Rattle.spl_core.specs.Graph.{Move, skips, assigns, havocs, tests, calls, starts, Arc, expr_at, expr_over, exprs_in, cond_at, cond_over, conds_in, graph_of}

-- each number stands for what its node is, and there are no more; the letter `d` is what a list has past its end
pub record StandsFor (c : Parts) : Type 0 where
  pub exprs : length (exprs_in c) ≡ length c.exprs
  pub conds : length (conds_in c) ≡ length c.conds
  pub expr : (e : ℕ) (d : CoreExpr) → e < length c.exprs → expr_at (exprs_in c) e ≡ expr_over (exprs_in c) (slice_index_or c.exprs e d)
  pub cond : (e : ℕ) (d : CoreCond) → e < length c.conds → cond_at (conds_in c) e ≡ cond_over (exprs_in c) (conds_in c) (slice_index_or c.conds e d)

-- in the parts of a core the numbers stand for their nodes
abbrev pub NumbersStandForNodes : Type 0
NumbersStandForNodes = (c : Parts) → IsCore c → StandsFor c

-- no literal of an edge is above the greatest one
abbrev pub MoveIsLimited : Move → Type 0
MoveIsLimited skips = Unit {0}
MoveIsLimited (assigns target e) = IsLimited e
MoveIsLimited (havocs target) = Unit {0}
MoveIsLimited (tests c wanted) = IsConditionLimited c
MoveIsLimited (calls callee args targets) = Unit {0}
MoveIsLimited (starts copies) = Unit {0}

-- what a number stands for has none, and no edge has one
pub record Limited (c : Parts) : Type 0 where
  pub expr : (e : ℕ) → IsLimited (expr_at (exprs_in c) e)
  pub cond : (e : ℕ) → IsConditionLimited (cond_at (conds_in c) e)
  pub arcs : All (λ (a : Arc). MoveIsLimited a.move) (graph_of c).arcs

abbrev pub LiteralsAreLimited : Type 0
LiteralsAreLimited = (c : Parts) → IsCore c → Limited c

-- divisor times quotient is no greater in size than the dividend, and what is left over is smaller in size than the divisor:
-- one integer alone does both, the exact quotient truncated toward zero
pub record TruncatesTowardZero (x y : ℤ) : Type 0 where
  pub quotient : nat_abs (y *ℤ (divided x y)) ≤ nat_abs x
  pub remainder : nat_abs (left_over x y) < nat_abs y

abbrev pub QuotientsTruncateTowardZero : Type 0
QuotientsTruncateTowardZero = (x y : ℤ) → y ≢ pos 0 → TruncatesTowardZero x y
