-- What stands between tokens: blanks and comments.
use Rattle.std.specs.Prelude.{ℕ, ◌+◌, ◌-◌, Bool, ◌==◌, ◌&&◌, not, List, length, drop, find, Option, slice_index}
use Rattle.std.specs.Option.{option_map}
use Rattle.std.specs.List.{prefix_len, range_with_len}

-- Do these two bytes stand at an offset? Past the end of a text a byte is read as 0, which is neither.
abbrev pub stand_at : ℕ → ℕ → List ℕ → ℕ → Bool
stand_at first second bytes at = slice_index bytes at == first && slice_index bytes (at + 1) == second

-- past a comment that begins with `//`: it goes up to the next LF, which is no part of it, or to the end
abbrev pub past_line : List ℕ → ℕ → ℕ
past_line bytes at = at + prefix_len (λ b. not (b == 10)) (drop at bytes)

-- past a comment that begins with `/*`: it goes through the first `*/` that begins after these two bytes; none where there is none
abbrev pub past_block : List ℕ → ℕ → Option ℕ
past_block bytes at = option_map (λ close. close + 2) (find (stand_at 42 47 bytes) (range_with_len (at + 2) (length bytes - (at + 2))))
