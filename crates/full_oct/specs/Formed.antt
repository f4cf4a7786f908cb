-- Assignments and tests by a form over a matrix's variables, in the place of the expressions that it was made of.
use Rattle.std.specs.Prelude.{ℕ, ◌+◌, ◌∷◌, [], Option}
use Rattle.std.specs.Option.{option_map, option_and_then}
use Rattle.oct_def.specs.Table.{Matrix}
use Rattle.oct_def.specs.Tight.{tight}
use Rattle.interval_form.specs.Form.{Form}
use Rattle.interval_form.specs.Linear.{variable_form, difference_form}
use Rattle.interval_form.specs.FormBounds.{bounded}
use Rattle.transfer_def.specs.Assign.{extended_ranges}
use Rattle.transfer_def.specs.Dimensions.{extended, moved}

-- the matrix over n variables with a new one that equals a form
abbrev pub equated_to : ℕ → Form → Matrix → Option Matrix
equated_to n f m =
    option_and_then
    (bounded (extended_ranges n m) (difference_form (extended_ranges n m) (variable_form (n + 1) n) f))
    (bounded (extended_ranges n m) (difference_form (extended_ranges n m) f (variable_form (n + 1) n)) (extended n 1 m))

-- the same, closed, with the new variable in the place of x
abbrev pub assigned_to : ℕ → ℕ → Form → Matrix → Option Matrix
assigned_to n x f m = option_map (moved n (x ∷ [])) (option_and_then tight (equated_to n f m))
