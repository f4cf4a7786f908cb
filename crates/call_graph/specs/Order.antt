-- The order of the points, and the cut points.
use Rattle.std.specs.Prelude.{◌≡◌, ℕ, ◌+◌, ◌<◌, ◌⊎◌, Bool, ◌&&◌, ◌||◌, nat_eq, nat_le, List, length}
use Rattle.std.specs.List.{list_any, filter, flat_map, range_with_len}
use Rattle.spl_core.specs.Graph.{Arc, Graph, owner_of, proc_owning}
use Rattle.call_graph.specs.Reach.{reaches, reach_count}

-- the points of a procedure, by number
unfoldable pub points_of : Graph → ℕ → List ℕ
points_of g p = filter (λ x. nat_eq (owner_of g x) p) (range_with_len 0 (length g.owners))

-- the procedures that reach k procedures, by text
unfoldable pub procs_with : Graph → ℕ → List ℕ
procs_with g k = filter (λ p. nat_eq (reach_count g p) k) (range_with_len 0 (length g.procs))

unfoldable pub points_with : Graph → ℕ → List ℕ
points_with g k = flat_map (points_of g) (procs_with g k)

-- all points: procedures by how many they reach, then by text; within one by number
unfoldable pub order : Graph → List ℕ
order g = flat_map (points_with g) (range_with_len 0 (length g.procs + 1))

-- the order as a relation
abbrev pub Before : Graph → ℕ → ℕ → Type 0
Before g x y =
    (reach_count g (owner_of g x) < reach_count g (owner_of g y))
    ⊎ ((reach_count g (owner_of g x) ≡ reach_count g (owner_of g y))
    × ((owner_of g x < owner_of g y) ⊎ ((owner_of g x ≡ owner_of g y) × (x < y))))

-- an edge from the same or a higher number enters a loop head
abbrev pub closes_loop_at : ℕ → Arc → Bool
closes_loop_at x a = nat_eq a.target x && nat_le x a.source

unfoldable pub is_loop_head : Graph → ℕ → Bool
is_loop_head g x = list_any (closes_loop_at x) g.arcs

unfoldable pub is_entry : Graph → ℕ → Bool
is_entry g x = nat_eq (proc_owning g x).entry x

-- the exit of a procedure that reaches itself
unfoldable pub is_recursive_exit : Graph → ℕ → Bool
is_recursive_exit g x = nat_eq (proc_owning g x).exit x && reaches g (owner_of g x) (owner_of g x)

-- loop heads, entries, main's too, and exits of recursive procedures
unfoldable pub is_cut : Graph → ℕ → Bool
is_cut g x = is_loop_head g x || (is_entry g x || is_recursive_exit g x)
