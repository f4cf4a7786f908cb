-- The unary bounds of a form as the code takes them from a list.
use Rattle.std.specs.Prelude.{ℕ, ◌+◌, ◌*◌, nat_eq, List, length, map, if◌then◌else◌}
use Rattle.std.specs.List.{range_with_len}
use Rattle.oct_def.specs.Bound.{half}
use Rattle.interval_form.specs.declared.constraints.OctBound.{OctBound}
use Rattle.interval_form.specs.declared.interval.Interval.{Interval}
use Rattle.interval_form.specs.Interval.{range_at, range_between}
use Rattle.interval_form.specs.Listing.{listed}
use Rattle.conc_analysis.specs.Environment.{meet_range}

-- the two unary bounds of a dimension, halved
abbrev pub listed_range : List OctBound → ℕ → Interval
listed_range bounds v = range_between (half (listed bounds (2 * v) (2 * v + 1))) (half (listed bounds (2 * v + 1) (2 * v)))

unfoldable pub met_at : List Interval → List OctBound → ℕ → Interval
met_at ranges bounds v = meet_range (range_at ranges v) (listed_range bounds v)

unfoldable pub met_by : List Interval → List OctBound → List Interval
met_by ranges bounds = map (met_at ranges bounds) (range_with_len 0 (length ranges))

-- a list with the interval of one dimension replaced
unfoldable pub range_with : List Interval → ℕ → Interval → ℕ → Interval
range_with ranges x i v = if nat_eq v x then i else range_at ranges v
