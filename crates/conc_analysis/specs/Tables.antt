-- Intervals by dimension and interference as the code keeps them.
use Rattle.std.specs.Prelude.{ℕ, List, map, Option, Vec}
use Rattle.std.specs.declared.alloc.Global.{Global}
use Rattle.interval_form.specs.declared.interval.Interval.{Interval}
use Rattle.conc_analysis.specs.declared.tables.EndByEnd.{EndByEnd}
use Rattle.conc_analysis.specs.declared.tables.EndByEnd.TheVariants.{Join, Widen, Narrow}
use Rattle.conc_analysis.specs.Environment.{join_range, widen_range, narrow_range}
use Rattle.conc_analysis.specs.Interference.{Interference}

-- the operation on two intervals by its name
abbrev pub by_ends : EndByEnd → Interval → Interval → Interval
by_ends Join a b = join_range a b
by_ends Widen a b = widen_range a b
by_ends Narrow a b = narrow_range a b

-- rows of intervals
abbrev pub rows_in : List (Vec (Option Interval) Global) → Interference
rows_in rows = map (λ (r : Vec (Option Interval) Global). r.items) rows
