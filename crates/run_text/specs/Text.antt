-- The text of a run: a line for each of its stacks.
use Rattle.std.specs.Prelude.{ℕ, ℤ, List, ◌++◌, codes, decimal}
use Rattle.std.specs.Fmt.{signed_decimal}
use Rattle.std.specs.List.{flat_map}
use Rattle.spl_runs.specs.Replay.{Top}

-- a value behind its space
abbrev pub value_text : ℤ → List ℕ
value_text x = codes " " ++ signed_decimal x

-- the top frame's point, the number of frames, and the top frame's values in order of dimensions
abbrev pub top_text : Top → List ℕ
top_text t = decimal t.point ++ (codes " " ++ (decimal t.depth ++ (flat_map value_text t.values ++ codes "\n")))

unfoldable pub run_text : List Top → List ℕ
run_text tops = flat_map top_text tops
