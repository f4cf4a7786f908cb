-- Worked tests, one for each line of the table of tests, and the lattice, on values over a variable x.
use Rattle.std.specs.Prelude.{◌≡◌, ℕ, true, false, Some, None, ℤ, pos, ◌+ℤ◌, neg_ℤ}
use Rattle.oct_def.specs.Octagon.{Octagon, bottom_value, top_value, join_value, widen_value, narrow_value}
use Rattle.spl_core.specs.declared.parts.Cmp.{Cmp}
use Rattle.spl_core.specs.declared.parts.Cmp.TheVariants as cmp
use Rattle.spl_core.specs.Expression.{Number, Variable}
use Rattle.spl_core.specs.Condition.{Condition, Constant, Random, Not, And, Or, Compare}
use Rattle.transfer_def.specs.Examples.{value_of_one, two}
use Rattle.transfer_def.specs.Test.{test_value}

-- x is from one integer to another; x is at least, and at most, an integer
abbrev pub between : ℤ → ℤ → Octagon
between low high = value_of_one (two (Some (pos 0)) (Some (neg_ℤ (low +ℤ low)))) (two (Some (high +ℤ high)) (Some (pos 0)))

abbrev pub from : ℤ → Octagon
from low = value_of_one (two (Some (pos 0)) (Some (neg_ℤ (low +ℤ low)))) (two None (Some (pos 0)))

abbrev pub up_to : ℤ → Octagon
up_to high = value_of_one (two (Some (pos 0)) None) (two (Some (high +ℤ high)) (Some (pos 0)))

-- a comparison of x with a number
abbrev pub x_is : Cmp → ℕ → Condition
x_is r k = Compare r (Variable 0) (Number k)

-- x is from 0 to 5
abbrev pub small : Octagon
small = between (pos 0) (pos 5)

-- what the test of a condition gives where it is wanted and where it isn't
pub record Tests (c : Condition) (wanted unwanted : Octagon) : Type 0 where
  pub when_wanted : test_value c true small ≡ wanted
  pub when_unwanted : test_value c false small ≡ unwanted

pub record TestExamples : Type 0 where
  pub constant_true : Tests (Constant true) small (bottom_value 1)
  pub constant_false : Tests (Constant false) (bottom_value 1) small
  pub random : Tests Random small small
  pub negation : Tests (Not (x_is cmp.Le 2)) (between (pos 3) (pos 5)) (between (pos 0) (pos 2))
  pub both : Tests (And (x_is cmp.Ge 1) (x_is cmp.Ge 3)) (between (pos 3) (pos 5)) (between (pos 0) (pos 2))
  pub one_of_two : Tests (Or (x_is cmp.Le 1) (x_is cmp.Le 3)) (between (pos 0) (pos 3)) (between (pos 4) (pos 5))
  pub at_most : Tests (x_is cmp.Le 2) (between (pos 0) (pos 2)) (between (pos 3) (pos 5))
  pub below : Tests (x_is cmp.Lt 2) (between (pos 0) (pos 1)) (between (pos 2) (pos 5))
  pub at_least : Tests (x_is cmp.Ge 2) (between (pos 2) (pos 5)) (between (pos 0) (pos 1))
  pub above : Tests (x_is cmp.Gt 2) (between (pos 3) (pos 5)) (between (pos 0) (pos 2))
  pub equal : Tests (x_is cmp.Eq 0) (between (pos 0) (pos 0)) (between (pos 1) (pos 5))
  pub different : Tests (x_is cmp.Ne 5) (between (pos 0) (pos 4)) (between (pos 5) (pos 5))
  -- and where nothing is known of x
  pub of_top : test_value (x_is cmp.Le 3) true (top_value 1) ≡ up_to (pos 3)

pub record LatticeExamples : Type 0 where
  -- the lesser of the lower bounds and the greater of the upper ones
  pub join : join_value (between (pos 0) (pos 1)) (between (pos 3) (pos 5)) ≡ small
  pub join_bottom_left : join_value (bottom_value 1) small ≡ small
  pub join_bottom_right : join_value small (bottom_value 1) ≡ small
  -- the upper bound rose and is lost; a bound that didn't rise is kept
  pub widening_loses : widen_value small (between (pos 0) (pos 7)) ≡ from (pos 0)
  pub widening_keeps : widen_value small (between (pos 1) (pos 4)) ≡ small
  pub widening_bottom_left : widen_value (bottom_value 1) small ≡ small
  pub widening_bottom_right : widen_value small (bottom_value 1) ≡ small
  -- the upper bound that wasn't there is taken; the lower bound that was there is kept
  pub narrowing_takes : narrow_value (from (pos 0)) (between (pos 1) (pos 10)) ≡ between (pos 0) (pos 10)
  pub narrowing_bottom_left : narrow_value (bottom_value 1) small ≡ bottom_value 1
  pub narrowing_bottom_right : narrow_value small (bottom_value 1) ≡ bottom_value 1
