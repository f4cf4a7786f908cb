-- The assignment `x := e` on a value.
-- After A. Miné, "The Octagon Abstract Domain", Higher-Order and Symbolic Computation 19 (2006), with a new variable that
-- takes the place of the target.
use Rattle.std.specs.Prelude.{ℕ, ◌+◌, ◌++◌, ◌∷◌, List, [], Option}
use Rattle.std.specs.Option.{option_map, option_and_then}
use Rattle.oct_def.specs.Table.{Matrix}
use Rattle.oct_def.specs.Tight.{tight}
use Rattle.oct_def.specs.Octagon.{Octagon, on_matrix}
use Rattle.spl_core.specs.Expression.{Expression}
use Rattle.interval_form.specs.declared.interval.Interval.{Interval}
use Rattle.interval_form.specs.Interval.{unbounded, ranges_of}
use Rattle.interval_form.specs.Form.{Form}
use Rattle.interval_form.specs.Linear.{linear_form, variable_form, difference_form}
use Rattle.interval_form.specs.FormBounds.{bounded}
use Rattle.transfer_def.specs.Dimensions.{extended, moved}

-- the ranges of a matrix over n variables, and of the new variable, which is unbounded
unfoldable pub extended_ranges : ℕ → Matrix → List Interval
extended_ranges n m = ranges_of n m ++ unbounded ∷ []

-- the form of an expression minus the new variable, and the new variable minus the form
unfoldable pub form_minus_new : ℕ → Matrix → Expression → Form
form_minus_new n m e =
    difference_form (extended_ranges n m) (linear_form (ranges_of n m) e) (variable_form (n + 1) n)

unfoldable pub new_minus_form : ℕ → Matrix → Expression → Form
new_minus_form n m e =
    difference_form (extended_ranges n m) (variable_form (n + 1) n) (linear_form (ranges_of n m) e)

-- the matrix with a new variable that equals the expression: both differences are at most 0
unfoldable pub equated : ℕ → Expression → Matrix → Option Matrix
equated n e m =
    option_and_then (bounded (extended_ranges n m) (new_minus_form n m e))
    (bounded (extended_ranges n m) (form_minus_new n m e) (extended n 1 m))

-- a matrix over n variables after `x := e`: closed, with the new variable in the place of x
unfoldable pub assigned : ℕ → ℕ → Expression → Matrix → Option Matrix
assigned n x e m = option_map (moved n (x ∷ [])) (option_and_then tight (equated n e m))

-- a value after `x := e`
unfoldable pub assign_value : ℕ → Expression → Octagon → Octagon
assign_value x e v = on_matrix (assigned v.dims x e) v
