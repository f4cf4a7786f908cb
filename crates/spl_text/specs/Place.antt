-- Lines and columns.
use Rattle.std.specs.Prelude.{ℕ, ◌+◌, ◌==◌, not, List, take, reverse, count_by}
use Rattle.std.specs.List.{prefix_len}

-- the line of an offset: 1 plus the number of LF bytes before it
abbrev pub line_of : List ℕ → ℕ → ℕ
line_of bytes offset = count_by (λ b. b == 10) (take offset bytes) + 1

-- its column: 1 plus the number of bytes between the last LF before it, or the start, and it
abbrev pub column_of : List ℕ → ℕ → ℕ
column_of bytes offset = prefix_len (λ b. not (b == 10)) (reverse (take offset bytes)) + 1
