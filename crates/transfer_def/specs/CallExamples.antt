-- Worked calls and returns.
use Rattle.std.specs.Prelude.{◌≡◌, [], ◌∷◌, None, pos}
use Rattle.oct_def.specs.Octagon.{Octagon, bottom_value}
use Rattle.transfer_def.specs.Examples.{value_of_two, four, most, less}
use Rattle.transfer_def.specs.Enter.{enter_value}
use Rattle.transfer_def.specs.Back.{back_value}

-- the first variable is 3, and of the second nothing is known; and the other way round
abbrev pub first_is_three : Octagon
first_is_three =
    value_of_two
    (four (most (pos 0)) (less (pos 6)) None None)
    (four (most (pos 6)) (most (pos 0)) None None)
    (four None None (most (pos 0)) None)
    (four None None None (most (pos 0)))

abbrev pub second_is_three : Octagon
second_is_three =
    value_of_two
    (four (most (pos 0)) None None None)
    (four None (most (pos 0)) None None)
    (four None None (most (pos 0)) (less (pos 6)))
    (four None None (most (pos 6)) (most (pos 0)))

-- the two variables are equal
abbrev pub equal_ones : Octagon
equal_ones =
    value_of_two
    (four (most (pos 0)) None (most (pos 0)) None)
    (four None (most (pos 0)) None (most (pos 0)))
    (four (most (pos 0)) None (most (pos 0)) None)
    (four None (most (pos 0)) None (most (pos 0)))

-- at an exit: the output is the input plus 1; of two inputs the first is below the second
abbrev pub one_more : Octagon
one_more =
    value_of_two
    (four (most (pos 0)) None (most (pos 1)) None)
    (four None (most (pos 0)) None (less (pos 1)))
    (four (less (pos 1)) None (most (pos 0)) None)
    (four None (most (pos 1)) None (most (pos 0)))

abbrev pub rising_inputs : Octagon
rising_inputs =
    value_of_two
    (four (most (pos 0)) None None None)
    (four None (most (pos 0)) None (less (pos 1)))
    (four (less (pos 1)) None (most (pos 0)) None)
    (four None None None (most (pos 0)))

-- the first variable is 3 and the second 4
abbrev pub three_and_four : Octagon
three_and_four =
    value_of_two
    (four (most (pos 0)) (less (pos 6)) (most (pos 1)) (less (pos 7)))
    (four (most (pos 6)) (most (pos 0)) (most (pos 7)) (less (pos 1)))
    (four (less (pos 1)) (less (pos 7)) (most (pos 0)) (less (pos 8)))
    (four (most (pos 7)) (most (pos 1)) (most (pos 8)) (most (pos 0)))

-- the first variable is 4
abbrev pub first_is_four : Octagon
first_is_four =
    value_of_two
    (four (most (pos 0)) (less (pos 8)) None None)
    (four (most (pos 8)) (most (pos 0)) None None)
    (four None None (most (pos 0)) None)
    (four None None None (most (pos 0)))

pub record CallExamples : Type 0 where
  -- a callee of one input and two variables; one whose inputs take the arguments the other way round; a repeated argument
  pub enters : enter_value first_is_three (0 ∷ []) 2 ≡ first_is_three
  pub turned : enter_value first_is_three (1 ∷ 0 ∷ []) 2 ≡ second_is_three
  pub repeated : enter_value second_is_three (0 ∷ 0 ∷ []) 2 ≡ equal_ones
  pub enters_bottom : enter_value (bottom_value 3) (0 ∷ []) 2 ≡ bottom_value 2
  -- the target takes the output; it may be the argument, whose old variable is dropped
  pub backs : back_value first_is_three one_more (0 ∷ []) 1 (1 ∷ []) ≡ three_and_four
  pub backs_into_argument : back_value first_is_three one_more (0 ∷ []) 1 (0 ∷ []) ≡ first_is_four
  -- no variable is below itself
  pub clashes : back_value first_is_three rising_inputs (0 ∷ 0 ∷ []) 0 [] ≡ bottom_value 2
  pub caller_bottom : back_value (bottom_value 2) one_more (0 ∷ []) 1 (1 ∷ []) ≡ bottom_value 2
  pub exit_bottom : back_value first_is_three (bottom_value 2) (0 ∷ []) 1 (1 ∷ []) ≡ bottom_value 2
