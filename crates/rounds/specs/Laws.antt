-- What lets a point be passed over: an operation done again with the same right side changes nothing. That a widening is such
-- an operation, the system says.
use Rattle.std.specs.Prelude.{◌≡◌}
use Rattle.oct_def.specs.Octagon.{Octagon, IsOctagon, join_value, narrow_value}

abbrev pub JoinAgain : Type 0
JoinAgain = (x v : Octagon) → IsOctagon v → join_value (join_value x v) v ≡ join_value x v

abbrev pub NarrowAgain : Type 0
NarrowAgain = (x v : Octagon) → narrow_value (narrow_value x v) v ≡ narrow_value x v
