-- The edges out of each point of a core.
use Rattle.std.specs.Prelude.{ℕ, nat_eq, List, length, map, filter}
use Rattle.std.specs.List.{range_with_len}
use Rattle.spl_core.specs.declared.parts.Edge.{Edge}
use Rattle.spl_core.specs.Parts.{Parts}

-- those of some edges whose source is a point, in order
abbrev pub leaving : List Edge → ℕ → List Edge
leaving edges point = filter (λ e. nat_eq e.source point) edges

-- the edges of a core out of each of its points
unfoldable pub edges_out : Parts → List (List Edge)
edges_out c = map (leaving c.edges) (range_with_len 0 (length c.owners))
