-- The test of a condition on a value.
use Rattle.std.specs.Prelude.{ℕ, Bool, true, false, Option, pos}
use Rattle.std.specs.Option.{option_and_then}
use Rattle.oct_def.specs.Table.{Matrix}
use Rattle.oct_def.specs.Tight.{tight}
use Rattle.oct_def.specs.Octagon.{Octagon, on_matrix, bottom_value, join_value}
use Rattle.spl_core.specs.declared.parts.Cmp.{Cmp}
use Rattle.spl_core.specs.declared.parts.Cmp.TheVariants as cmp
use Rattle.spl_core.specs.Expression.{Expression}
use Rattle.spl_core.specs.Condition.{Condition, Constant, Random, Not, And, Or, Compare}
use Rattle.interval_form.specs.Interval.{point, ranges_of}
use Rattle.interval_form.specs.Form.{Form}
use Rattle.interval_form.specs.Linear.{constant_form, linear_form, sum_form, difference_form}
use Rattle.interval_form.specs.FormBounds.{bounded}

-- the form of a - b by the ranges of a matrix over n variables, and the form of a - b + 1
unfoldable pub difference_in : ℕ → Matrix → Expression → Expression → Form
difference_in n m a b = difference_form (ranges_of n m) (linear_form (ranges_of n m) a) (linear_form (ranges_of n m) b)

unfoldable pub difference_and_one : ℕ → Matrix → Expression → Expression → Form
difference_and_one n m a b = sum_form (ranges_of n m) (difference_in n m a b) (constant_form n (point (pos 1)))

-- a matrix over n variables where a form is at most 0
unfoldable pub restricted : ℕ → Form → Matrix → Option Matrix
restricted n f m = option_and_then tight (bounded (ranges_of n m) f m)

-- a value where `a <= b`, and where `a < b`
abbrev pub restrict_at_most : ℕ → Expression → Expression → Matrix → Option Matrix
restrict_at_most n a b m = restricted n (difference_in n m a b) m

abbrev pub restrict_below : ℕ → Expression → Expression → Matrix → Option Matrix
restrict_below n a b m = restricted n (difference_and_one n m a b) m

unfoldable pub at_most_value : Expression → Expression → Octagon → Octagon
at_most_value a b v = on_matrix (restrict_at_most v.dims a b) v

unfoldable pub below_value : Expression → Expression → Octagon → Octagon
below_value a b v = on_matrix (restrict_below v.dims a b) v

-- a value where two expressions are equal, and where they are different
unfoldable pub equal_value : Expression → Expression → Octagon → Octagon
equal_value a b v = at_most_value b a (at_most_value a b v)

unfoldable pub different_value : Expression → Expression → Octagon → Octagon
different_value a b v = join_value (below_value a b v) (below_value b a v)

-- a value where a comparison comes out as wanted
abbrev pub compare_value : Cmp → Bool → Expression → Expression → Octagon → Octagon
compare_value cmp.Le true a b v = at_most_value a b v
compare_value cmp.Le false a b v = below_value b a v
compare_value cmp.Lt true a b v = below_value a b v
compare_value cmp.Lt false a b v = at_most_value b a v
compare_value cmp.Ge true a b v = at_most_value b a v
compare_value cmp.Ge false a b v = below_value a b v
compare_value cmp.Gt true a b v = below_value b a v
compare_value cmp.Gt false a b v = at_most_value a b v
compare_value cmp.Eq true a b v = equal_value a b v
compare_value cmp.Eq false a b v = different_value a b v
compare_value cmp.Ne true a b v = different_value a b v
compare_value cmp.Ne false a b v = equal_value a b v

-- a value where a constant is as wanted: the value itself, or Bottom
abbrev pub constant_value : Bool → Bool → Octagon → Octagon
constant_value true true v = v
constant_value true false v = bottom_value v.dims
constant_value false true v = bottom_value v.dims
constant_value false false v = v

-- a value where a condition comes out as wanted
unfoldable pub test_value : Condition → Bool → Octagon → Octagon
test_value (Constant value) wanted v = constant_value value wanted v
test_value Random wanted v = v
test_value (Not c) true v = test_value c false v
test_value (Not c) false v = test_value c true v
test_value (And c d) true v = test_value d true (test_value c true v)
test_value (And c d) false v = join_value (test_value c false v) (test_value d false v)
test_value (Or c d) true v = join_value (test_value c true v) (test_value d true v)
test_value (Or c d) false v = test_value d false (test_value c false v)
test_value (Compare r a b) wanted v = compare_value r wanted a b v
