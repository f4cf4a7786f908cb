-- A worked core, and worked quotients and remainders.
use Rattle.std.specs.Prelude.{◌≡◌, Bool, [], ◌∷◌, None, Some, ℤ, pos, neg_ℤ}
use Rattle.spl_core.specs.declared.parts.Action.TheVariants as action
use Rattle.spl_core.specs.declared.parts.CoreExpr.TheVariants as expr
use Rattle.spl_core.specs.declared.parts.CoreCond.TheVariants as cond
use Rattle.spl_core.specs.declared.parts.Cmp.TheVariants as cmp
use Rattle.spl_core.specs.Parts.{Parts}
use Rattle.spl_core.specs.Facts.{IsCore}
use Rattle.spl_core.specs.Expression.{Number, Variable, Add, Sub, Mul, Div, Rem, quotient, remainder, eval}
use Rattle.spl_core.specs.Condition.{Compare, May}
use Rattle.spl_core.specs.Graph.{assigns, calls, starts, graph_of}

-- `proc inc(n:int) returns (r:int) begin n = n + 1; r = n; end var a:int, b:int; begin b = inc(a); end`, and a condition that no edge names
abbrev pub incremented : Parts
incremented = record {
  procs = record { inputs = 1; outputs = 1; dims = 3; entry = 0; exit = 3 } ∷ record { inputs = 0; outputs = 0; dims = 2; entry = 4; exit = 6 } ∷ [];
  owners = 0 ∷ 0 ∷ 0 ∷ 0 ∷ 1 ∷ 1 ∷ 1 ∷ [];
  edges = record { source = 0; target = 1; action = action.Start (record { first = 0; count = 2 }) }
      ∷ record { source = 1; target = 2; action = action.Assign 2 2 }
      ∷ record { source = 2; target = 3; action = action.Assign 1 0 }
      ∷ record { source = 4; target = 5; action = action.Start (record { first = 2; count = 0 }) }
      ∷ record { source = 5; target = 6; action = action.Call 0 (record { first = 2; count = 1 }) (record { first = 3; count = 1 }) } ∷ [];
  dims = 2 ∷ 0 ∷ 0 ∷ 1 ∷ [];
  exprs = expr.Variable 2 ∷ expr.Number 1 ∷ expr.Add 0 1 ∷ [];
  conds = cond.Compare cmp.Lt 0 1 ∷ [];
}

-- `var x:int; begin x = x * x; end`
abbrev pub squared : Parts
squared = record {
  procs = record { inputs = 0; outputs = 0; dims = 1; entry = 0; exit = 2 } ∷ [];
  owners = 0 ∷ 0 ∷ 0 ∷ [];
  edges = record { source = 0; target = 1; action = action.Start (record { first = 0; count = 0 }) } ∷ record { source = 1; target = 2; action = action.Assign 0 1 } ∷ [];
  dims = [];
  exprs = expr.Variable 0 ∷ expr.Mul 0 0 ∷ [];
  conds = [];
}

pub record CoreExamples : Type 0 where
  pub keeps : IsCore incremented
  pub keeps_squared : IsCore squared
  pub stands : graph_of incremented ≡ record {
    procs = record { inputs = 1; outputs = 1; dims = 3; entry = 0; exit = 3 } ∷ record { inputs = 0; outputs = 0; dims = 2; entry = 4; exit = 6 } ∷ [];
    owners = 0 ∷ 0 ∷ 0 ∷ 0 ∷ 1 ∷ 1 ∷ 1 ∷ [];
    arcs = record { source = 0; target = 1; move = starts (record { target = 2; origin = 0 } ∷ []) }
        ∷ record { source = 1; target = 2; move = assigns 2 (Add (Variable 2) (Number 1)) }
        ∷ record { source = 2; target = 3; move = assigns 1 (Variable 2) }
        ∷ record { source = 4; target = 5; move = starts [] }
        ∷ record { source = 5; target = 6; move = calls 0 (0 ∷ []) (1 ∷ []) } ∷ [];
  }

-- x divided by y: the quotient q, and the remainder r
pub record Divides (x y q r : ℤ) : Type 0 where
  pub quotient : quotient x y ≡ Some q
  pub remainder : remainder x y ≡ Some r

-- signs, a divisor of 0, and missing parts
pub record DivisionExamples : Type 0 where
  pub positive : Divides (pos 7) (pos 2) (pos 3) (pos 1)
  pub by_negative : Divides (pos 7) (neg_ℤ (pos 2)) (neg_ℤ (pos 3)) (pos 1)
  pub of_negative : Divides (neg_ℤ (pos 7)) (pos 2) (neg_ℤ (pos 3)) (neg_ℤ (pos 1))
  pub of_two_negatives : Divides (neg_ℤ (pos 7)) (neg_ℤ (pos 2)) (pos 3) (neg_ℤ (pos 1))
  pub of_smaller : Divides (neg_ℤ (pos 3)) (pos 4) (pos 0) (neg_ℤ (pos 3))
  pub quotient_by_zero : quotient (pos 7) (pos 0) ≡ None
  pub remainder_by_zero : remainder (pos 7) (pos 0) ≡ None
  -- `7 / x - 7 % x` where x is -2 and where x is 0; `0 * (1 / x)` is missing too
  pub of_state : eval (Sub (Div (Number 7) (Variable 0)) (Rem (Number 7) (Variable 0))) (neg_ℤ (pos 2) ∷ []) ≡ Some (neg_ℤ (pos 4))
  pub missing : eval (Sub (Div (Number 7) (Variable 0)) (Rem (Number 7) (Variable 0))) (pos 0 ∷ []) ≡ None
  pub with_missing_part : eval (Mul (Number 0) (Div (Number 1) (Variable 0))) (pos 0 ∷ []) ≡ None
  -- `1 / x == 0` and `1 / x != 0` come out neither way where x is 0
  pub equal_to_missing : (wanted : Bool) → May (Compare cmp.Eq (Div (Number 1) (Variable 0)) (Number 0)) (pos 0 ∷ []) wanted → ⊥
  pub unlike_missing : (wanted : Bool) → May (Compare cmp.Ne (Div (Number 1) (Variable 0)) (Number 0)) (pos 0 ∷ []) wanted → ⊥
