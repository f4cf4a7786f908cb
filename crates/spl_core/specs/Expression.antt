-- Expressions over the dimensions of a state, and their values without limit.
use Rattle.std.specs.Prelude.{ℕ, ◌<◌, ◌≤◌, List, slice_index_or, Option, None, Some, ℤ, pos, ◌+ℤ◌, ◌-ℤ◌, ◌*ℤ◌, neg_ℤ, int_div, if◌then◌else◌}
use Rattle.std.specs.Option.{option_map}
use Rattle.std.specs.Ordering.{int_eq}
use Rattle.spl_core.specs.Limits.{greatest_literal}

-- an expression: a literal, a dimension, a negation, a sum, a difference, a product, a quotient, a remainder
pub data Expression : Type 0 where
  Number : (value : ℕ) → Expression
  Variable : (dimension : ℕ) → Expression
  Neg : (a : Expression) → Expression
  Add : (a b : Expression) → Expression
  Sub : (a b : Expression) → Expression
  Mul : (a b : Expression) → Expression
  Div : (a b : Expression) → Expression
  Rem : (a b : Expression) → Expression

-- a state: an integer, without limit, for each dimension
abbrev pub State : Type 0
State = List ℤ

-- the value of a dimension in a state
abbrev pub value_of : State → ℕ → ℤ
value_of s v = slice_index_or s v (pos 0)

-- ---- operations on values, of which some are missing

-- an operation on two values: missing where one of them is
abbrev pub of_both : (ℤ → ℤ → Option ℤ) → Option ℤ → Option ℤ → Option ℤ
of_both f None y = None
of_both f (Some x) None = None
of_both f (Some x) (Some y) = f x y

abbrev pub sum : ℤ → ℤ → Option ℤ
sum x y = Some (x +ℤ y)

abbrev pub difference : ℤ → ℤ → Option ℤ
difference x y = Some (x -ℤ y)

abbrev pub product : ℤ → ℤ → Option ℤ
product x y = Some (x *ℤ y)

-- x divided by y and truncated toward zero, as `law_quotient` says of every y but 0
abbrev pub divided : ℤ → ℤ → ℤ
divided x y = int_div x y

-- what this leaves of x
abbrev pub left_over : ℤ → ℤ → ℤ
left_over x y = x -ℤ (y *ℤ (divided x y))

-- the quotient and the remainder: missing where the divisor is 0
abbrev pub quotient : ℤ → ℤ → Option ℤ
quotient x y = if int_eq y (pos 0) then None else Some (divided x y)

abbrev pub remainder : ℤ → ℤ → Option ℤ
remainder x y = if int_eq y (pos 0) then None else Some (left_over x y)

-- the value of an expression in a state, without limit; missing where a part is, or where a divisor is 0
unfoldable pub eval : Expression → State → Option ℤ
eval (Number k) s = Some (pos k)
eval (Variable v) s = Some (value_of s v)
eval (Neg a) s = option_map neg_ℤ (eval a s)
eval (Add a b) s = of_both sum (eval a s) (eval b s)
eval (Sub a b) s = of_both difference (eval a s) (eval b s)
eval (Mul a b) s = of_both product (eval a s) (eval b s)
eval (Div a b) s = of_both quotient (eval a s) (eval b s)
eval (Rem a b) s = of_both remainder (eval a s) (eval b s)

-- each variable of the expression is one of the first n dimensions
abbrev pub IsOver : ℕ → Expression → Type 0
IsOver n (Number k) = Unit {0}
IsOver n (Variable v) = v < n
IsOver n (Neg a) = IsOver n a
IsOver n (Add a b) = IsOver n a × IsOver n b
IsOver n (Sub a b) = IsOver n a × IsOver n b
IsOver n (Mul a b) = IsOver n a × IsOver n b
IsOver n (Div a b) = IsOver n a × IsOver n b
IsOver n (Rem a b) = IsOver n a × IsOver n b

-- no literal of the expression is above the greatest one
abbrev pub IsLimited : Expression → Type 0
IsLimited (Number k) = k ≤ greatest_literal
IsLimited (Variable v) = Unit {0}
IsLimited (Neg a) = IsLimited a
IsLimited (Add a b) = IsLimited a × IsLimited b
IsLimited (Sub a b) = IsLimited a × IsLimited b
IsLimited (Mul a b) = IsLimited a × IsLimited b
IsLimited (Div a b) = IsLimited a × IsLimited b
IsLimited (Rem a b) = IsLimited a × IsLimited b
