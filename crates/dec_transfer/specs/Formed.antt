-- The new variable of an assignment, by the form of the expression.
use Rattle.std.specs.Prelude.{◌≡◌, ℕ}
use Rattle.std.specs.List.{All}
use Rattle.oct_def.specs.Table.{Matrix}
use Rattle.spl_core.specs.Expression.{Expression}
use Rattle.interval_form.specs.declared.constraints.Bounds.{Bounds}
use Rattle.interval_form.specs.declared.constraints.Bounds.TheVariants.{Nothing, Few}
use Rattle.interval_form.specs.Interval.{ranges_of}
use Rattle.interval_form.specs.Linear.{linear_form}
use Rattle.interval_form.specs.Sparse.{Sparse, form_in}
use Rattle.interval_form.specs.Listed.{IsPlaced}
use Rattle.transfer_def.specs.Assign.{extended_ranges, form_minus_new, new_minus_form}
use Rattle.dec_transfer.specs.Listed.{AreBoth}

-- a form of the code is that of an expression in the ranges of a matrix over n variables
abbrev pub IsFormOf : ℕ → Matrix → Expression → Sparse → Type 0
IsFormOf n m e s = form_in n s ≡ linear_form (ranges_of n m) e

-- the bounds where the new variable is an expression, for each one with this form
abbrev pub AreBoundsOfNew : ℕ → Matrix → Sparse → Bounds → Type 0
AreBoundsOfNew n m s b = (e : Expression) → IsFormOf n m e s → AreBoth (extended_ranges n m) (form_minus_new n m e) (new_minus_form n m e) b

-- the bounds that there are stand at places of a matrix over n variables
abbrev pub ArePlaced : ℕ → Bounds → Type 0
ArePlaced n Nothing = Unit {0}
ArePlaced n (Few bounds) = All (IsPlaced n) bounds.items
