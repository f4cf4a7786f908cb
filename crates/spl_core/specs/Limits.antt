-- The limits of a core.
use Rattle.std.specs.Prelude.{ℕ, ◌^◌}

-- the greatest number of procedures, main included
abbrev pub most_procedures : ℕ
most_procedures = 257

-- the greatest number of points
abbrev pub most_points : ℕ
most_points = 4096

-- the greatest number of dimensions in a procedure
abbrev pub most_dimensions : ℕ
most_dimensions = 128

-- each list of the parts has fewer items
abbrev pub most_items : ℕ
most_items = 2 ^ 31

-- the greatest literal
abbrev pub greatest_literal : ℕ
greatest_literal = 2 ^ 61
