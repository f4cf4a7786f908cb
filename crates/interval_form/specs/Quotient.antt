-- Quotients and remainders of two intervals. A quotient goes by the positive and by the negative part of the divisor, since an
-- integer has none by 0. Ends are taken as they stand, also those of an interval that no integer lies in.
use Rattle.std.specs.Prelude.{Bool, true, max, nat_abs, None, Some, ℤ, pos, negsuc, ◌-ℤ◌, ◌≤ℤ◌, int_lt, if◌then◌else◌}
use Rattle.std.specs.Int.{int_min, int_max}
use Rattle.oct_def.specs.Bound.{Bound, least, greatest}
use Rattle.spl_core.specs.Expression.{divided}
use Rattle.interval_form.specs.Interval.{Interval, negated_bound, negated}
use Rattle.interval_form.specs.Form.{nothing, is_nothing}

-- an upper end is above 0, and a lower end is below 0; an unbounded one is
abbrev pub is_above : Bound → Bool
is_above None = true
is_above (Some x) = int_lt (pos 0) x

abbrev pub is_below : Bound → Bool
is_below None = true
is_below (Some x) = int_lt x (pos 0)

-- ---- quotients

-- the positive part of an interval whose upper end is above 0: from the greater of 1 and the lower end on
abbrev pub positive_low : Bound → ℤ
positive_low None = pos 1
positive_low (Some x) = int_max (pos 1) x

unfoldable pub positive_part : Interval → Interval
positive_part b = record { low = Some (positive_low b.low); high = b.high }

-- the negative part of one whose lower end is below 0: up to the lesser of -1 and the upper end
abbrev pub negative_high : Bound → ℤ
negative_high None = negsuc 0
negative_high (Some x) = int_min (negsuc 0) x

unfoldable pub negative_part : Interval → Interval
negative_part b = record { low = b.low; high = Some (negative_high b.high) }

-- an integer divided by an end; 0 where the end is unbounded
abbrev pub by_end : ℤ → Bound → ℤ
by_end x None = pos 0
by_end x (Some d) = divided x d

-- an end of a positive interval: unbounded, or above 0
abbrev pub IsPositiveEnd : Bound → Type 0
IsPositiveEnd None = Unit {0}
IsPositiveEnd (Some x) = pos 1 ≤ℤ x

-- the ends of the quotient by a positive interval: a lower end below 0, and an upper one that isn't, is divided by the lesser
-- end of the divisor, any other by the greater one; an unbounded end stays unbounded
abbrev pub low_quotient : Bound → Interval → Bound
low_quotient None b = None
low_quotient (Some x) b = Some (if int_lt x (pos 0) then by_end x b.low else by_end x b.high)

abbrev pub high_quotient : Bound → Interval → Bound
high_quotient None b = None
high_quotient (Some x) b = Some (if int_lt x (pos 0) then by_end x b.high else by_end x b.low)

unfoldable pub quotient_by_positive : Interval → Interval → Interval
quotient_by_positive a b = record { low = low_quotient a.low b; high = high_quotient a.high b }

-- the quotient by a negative interval: minus the quotient by its negation
unfoldable pub quotient_by_negative : Interval → Interval → Interval
quotient_by_negative a b = negated (quotient_by_positive a (negated b))

-- the join: the lesser of the lower ends and the greater of the upper ones
abbrev pub lower_low : Bound → Bound → Bound
lower_low None y = None
lower_low (Some x) None = None
lower_low (Some x) (Some y) = Some (int_min x y)

unfoldable pub join_of : Interval → Interval → Interval
join_of a b = record { low = lower_low a.low b.low; high = greatest a.high b.high }

-- the quotient of two intervals: the join of the quotients by the parts that the divisor has; [0, 0] where it has none
unfoldable pub quotient_of : Interval → Interval → Interval
quotient_of a b =
    if is_above b.high
    then
    (if is_below b.low
    then join_of (quotient_by_positive a (positive_part b)) (quotient_by_negative a (negative_part b))
    else quotient_by_positive a (positive_part b))
    else (if is_below b.low then quotient_by_negative a (negative_part b) else nothing)

-- ---- remainders

-- the greater of the sizes of the two ends; none where one is unbounded
abbrev pub greatest_size : Bound → Bound → Bound
greatest_size None high = None
greatest_size (Some x) None = None
greatest_size (Some x) (Some y) = Some (pos (max (nat_abs x) (nat_abs y)))

-- one less: a remainder by an integer of this size is no greater in size
abbrev pub one_less : Bound → Bound
one_less None = None
one_less (Some g) = Some (g -ℤ pos 1)

-- the upper end of a remainder whose size is within a bound: 0 where the dividend's isn't above 0
abbrev pub high_remainder : Bound → Bound → Bound
high_remainder high g = if is_above high then least high g else Some (pos 0)

-- the lower end, its mirror: 0 where the dividend's isn't below 0, else the greater of it and minus the bound
abbrev pub low_remainder : Bound → Bound → Bound
low_remainder low g = negated_bound (high_remainder (negated_bound low) g)

unfoldable pub remainder_within : Interval → Bound → Interval
remainder_within a g = record { low = low_remainder a.low g; high = high_remainder a.high g }

-- the remainder of two intervals; [0, 0] where the divisor is [0, 0]
unfoldable pub remainder_of : Interval → Interval → Interval
remainder_of a b = if is_nothing b then nothing else remainder_within a (one_less (greatest_size b.low b.high))
