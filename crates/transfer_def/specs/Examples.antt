-- Worked assignments, with the matrices that they give.
use Rattle.std.specs.Prelude.{◌≡◌, List, [], ◌∷◌, Some, None, ℤ, pos, neg_ℤ}
use Rattle.oct_def.specs.Bound.{Bound, low_limit}
use Rattle.oct_def.specs.Octagon.{Octagon, top_value}
use Rattle.spl_core.specs.Expression.{Number, Variable, Add}
use Rattle.transfer_def.specs.Assign.{assign_value}
use Rattle.transfer_def.specs.Forget.{forget_value}
use Rattle.transfer_def.specs.Move.{copy_value}

-- a value over two variables x and y by its four rows, and one over a variable x by its two rows
abbrev pub value_of_two : List Bound → List Bound → List Bound → List Bound → Octagon
value_of_two a b c d = record { dims = 2; matrix = Some (a ∷ b ∷ c ∷ d ∷ []) }

abbrev pub value_of_one : List Bound → List Bound → Octagon
value_of_one a b = record { dims = 1; matrix = Some (a ∷ b ∷ []) }

-- a row of four bounds, and one of two
abbrev pub four : Bound → Bound → Bound → Bound → List Bound
four a b c d = a ∷ b ∷ c ∷ d ∷ []

abbrev pub two : Bound → Bound → List Bound
two a b = a ∷ b ∷ []

-- an upper bound n, and a bound -n
abbrev pub most : ℤ → Bound
most n = Some n

abbrev pub less : ℤ → Bound
less n = Some (neg_ℤ n)

-- `x = 3`: x is 3, and nothing is known of y
abbrev pub ConstantExample : Type 0
ConstantExample =
    assign_value 0 (Number 3) (top_value 2) ≡
    value_of_two
    (four (most (pos 0)) (less (pos 6)) None None)
    (four (most (pos 6)) (most (pos 0)) None None)
    (four None None (most (pos 0)) None)
    (four None None None (most (pos 0)))

-- `x = 3; y = x + 4`: x is 3 and y is 7, so that y - x is 4 and x + y is 10
abbrev pub SumExample : Type 0
SumExample =
    assign_value 1 (Add (Variable 0) (Number 4)) (assign_value 0 (Number 3) (top_value 2)) ≡
    value_of_two
    (four (most (pos 0)) (less (pos 6)) (most (pos 4)) (less (pos 10)))
    (four (most (pos 6)) (most (pos 0)) (most (pos 10)) (less (pos 4)))
    (four (less (pos 4)) (less (pos 10)) (most (pos 0)) (less (pos 14)))
    (four (most (pos 10)) (most (pos 4)) (most (pos 14)) (most (pos 0)))

-- `x = y; y = y + 1`: y - x is 1, and nothing else is known
abbrev pub DifferenceExample : Type 0
DifferenceExample =
    assign_value 1 (Add (Variable 1) (Number 1)) (assign_value 0 (Variable 1) (top_value 2)) ≡
    value_of_two
    (four (most (pos 0)) None (most (pos 1)) None)
    (four None (most (pos 0)) None (less (pos 1)))
    (four (less (pos 1)) None (most (pos 0)) None)
    (four None (most (pos 1)) None (most (pos 0)))

-- `x = 2^60; x = x + 1`: twice 2^60 + 1 passes the greatest bound, so the upper bound is lost, and the lower bound is 2^60
abbrev pub LimitExample : Type 0
LimitExample =
    assign_value 0 (Add (Variable 0) (Number 1)) (assign_value 0 (Number 1152921504606846976) (top_value 1)) ≡
    value_of_one (two (most (pos 0)) (Some low_limit)) (two None (most (pos 0)))

-- `x = 2^61`: x is at least 2^60
abbrev pub GreatestExample : Type 0
GreatestExample =
    assign_value 0 (Number 2305843009213693952) (top_value 1) ≡
    value_of_one (two (most (pos 0)) (Some low_limit)) (two None (most (pos 0)))

-- `x = y; y = random`: nothing is known of x and y
abbrev pub RandomExample : Type 0
RandomExample = forget_value 1 (assign_value 0 (Variable 1) (top_value 2)) ≡ top_value 2

-- `y = 3`, and then copies into x from y and into y from x, in order: both are 3
abbrev pub CopiesExample : Type 0
CopiesExample =
    copy_value (record { target = 0; origin = 1 } ∷ record { target = 1; origin = 0 } ∷ []) (assign_value 1 (Number 3) (top_value 2)) ≡
    value_of_two
    (four (most (pos 0)) (less (pos 6)) (most (pos 0)) (less (pos 6)))
    (four (most (pos 6)) (most (pos 0)) (most (pos 6)) (most (pos 0)))
    (four (most (pos 0)) (less (pos 6)) (most (pos 0)) (less (pos 6)))
    (four (most (pos 6)) (most (pos 0)) (most (pos 6)) (most (pos 0)))

-- all of these
pub record AssignExamples : Type 0 where
  pub constant : ConstantExample
  pub sum : SumExample
  pub difference : DifferenceExample
  pub limit : LimitExample
  pub greatest : GreatestExample
  pub random : RandomExample
  pub copies : CopiesExample
