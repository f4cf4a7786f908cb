-- The rounds over a system: the ascent from Bottom, then the descent; and what is read at the points in the end.
use Rattle.std.specs.Prelude.{ℕ, Bool, List, map, if◌then◌else◌}
use Rattle.std.specs.List.{range_with_len}
use Rattle.oct_def.specs.Octagon.{Octagon, bottom_value, tight_value}
use Rattle.rounds.specs.System.{System, most_rounds}
use Rattle.rounds.specs.Rounds.{Cell, cell_at, ascended, descended, stepped, next_by, Ascended, ascent, repeated}

abbrev pub values_in : List Cell → ℕ → Octagon
values_in cells p = (cell_at cells p).value

-- a cut point is read through its tight closure
abbrev pub reading : System → List Cell → ℕ → Octagon
reading s cells p = if s.cut p then tight_value (values_in cells p) else values_in cells p

-- F at a point, of what is stored
unfoldable pub source_in : System → ℕ → List Cell → Octagon
source_in s p cells = s.equation (reading s cells) p

-- what a visit of the ascent and of the descent gives
abbrev pub rising : System → ℕ → List Cell → Cell
rising s = next_by (ascended s.widening) s.cut (source_in s)

abbrev pub falling : System → ℕ → List Cell → Cell
falling s = next_by descended s.cut (source_in s)

-- what a visit gives, in the descent or in the ascent
abbrev pub moving : System → Bool → ℕ → List Cell → Cell
moving s down = next_by (stepped s.widening down) s.cut (source_in s)

-- Bottom at each point, with so many joins left
abbrev pub start_cell : System → ℕ → ℕ → Cell
start_cell s delay p = record { value = bottom_value (s.dims p); left = delay }

unfoldable pub start : System → ℕ → List Cell
start s delay = map (start_cell s delay) (range_with_len 0 s.points)

-- ---- the solution

-- the ascent: rounds from Bottom up to and including the first that changes nothing. It comes within the bound (law_ascent)
abbrev pub ascent_of : System → ℕ → Ascended
ascent_of s delay = ascent (rising s) s.order (most_rounds s delay) 0 (start s delay)

-- the number of its rounds
abbrev pub rounds_of : System → ℕ → ℕ
rounds_of s delay = (ascent_of s delay).rounds

-- the stored cells after the rounds of the descent
unfoldable pub solved : System → ℕ → ℕ → List Cell
solved s delay descend = repeated (falling s) s.order descend (ascent_of s delay).cells

-- the stored value of a point, and the value that is read there
abbrev pub stored_of : System → ℕ → ℕ → ℕ → Octagon
stored_of s delay descend = values_in (solved s delay descend)

abbrev pub read_of : System → ℕ → ℕ → ℕ → Octagon
read_of s delay descend = reading s (solved s delay descend)
