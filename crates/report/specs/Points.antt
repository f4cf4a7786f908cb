-- The points that have a line in a report: all but the entries of procedures.
use Rattle.std.specs.Prelude.{◌≡◌, ℕ, ◌<◌, List, [], ◌∷◌, length, slice_index_or, if◌then◌else◌}
use Rattle.std.specs.List.{All, flat_map, range_with_len}
use Rattle.spl_tree.specs.Program.{Program}
use Rattle.spl_core.specs.Graph.{Graph, owner_of, proc_of}
use Rattle.call_graph.specs.Order.{is_entry}
use Rattle.spl_types.specs.Dimensions.{dimensions}
use Rattle.spl_print.specs.Canonical.{Line, words, point, point_lines, program_lines}
use Rattle.control_points.specs.declared.built.Fail.{Fail}
use Rattle.control_points.specs.CoreOf.{core_of, fails_of, offsets_of}

-- an item for each point that has a line, in order
abbrev pub for_line : {A : Type 0} → Graph → (ℕ → A) → ℕ → List A
for_line g f k = if is_entry g k then [] else f k ∷ []

unfoldable pub for_lines : {A : Type 0} → Graph → (ℕ → A) → List A
for_lines g f = flat_map (for_line g f) (range_with_len 0 (length g.owners))

-- the dimensions at a point, by their names
abbrev pub names_at : Program → ℕ → List (List ℕ)
names_at p k = dimensions p (owner_of (core_of p) k)

-- ---- laws

-- the places of the lines of points
abbrev pub line_places : List Line → List ℕ
line_places [] = []
line_places (words n text ∷ lines) = line_places lines
line_places (point n offset ∷ lines) = offset ∷ line_places lines

abbrev pub place_at : Program → ℕ → ℕ
place_at p k = slice_index_or (offsets_of p) k 0

-- the lines of points in the canonical text are those of these points, in their order
abbrev pub LinesArePoints : Type 0
LinesArePoints = (p : Program) → line_places (program_lines p) ≡ for_lines (core_of p) (place_at p)

-- and they are as many
abbrev pub LinesAreAsMany : Type 0
LinesAreAsMany = (p : Program) (f : ℕ → List ℕ) → length (for_lines (core_of p) f) ≡ point_lines (program_lines p)

-- a procedure has a name for each of its dimensions
abbrev pub DimensionsHaveNames : Type 0
DimensionsHaveNames = (p : Program) (k : ℕ) → k < length (core_of p).procs → (proc_of (core_of p) k).dims ≡ length (dimensions p k)

-- each fail is at a point
abbrev pub FailsAreAtPoints : Type 0
FailsAreAtPoints = (p : Program) → All (λ (f : Fail). f.point < length (core_of p).owners) (fails_of p)
