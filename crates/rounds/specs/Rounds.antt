-- Cells of points, and rounds over them.
use Rattle.std.specs.Prelude.{◌≡◌, ℕ, zero, suc, ◌+◌, ◌-◌, ◌<◌, Bool, true, false, not, ◌&&◌, ◌||◌, nat_eq, Option, Some, None, List, [], ◌∷◌, length, slice_index_or, slice_set, if◌then◌else◌}
use Rattle.std.specs.Ordering.{int_eq}
use Rattle.oct_def.specs.Bound.{Bound}
use Rattle.oct_def.specs.Table.{Matrix}
use Rattle.oct_def.specs.Octagon.{Octagon, bottom_value, join_value, narrow_value}

-- ---- equal values, as a test

abbrev pub same_list : {X : Type 0} → (X → X → Bool) → List X → List X → Bool
same_list same [] [] = true
same_list same [] (y ∷ ys) = false
same_list same (x ∷ xs) [] = false
same_list same (x ∷ xs) (y ∷ ys) = same x y && same_list same xs ys

abbrev pub same_bound : Bound → Bound → Bool
same_bound None None = true
same_bound None (Some y) = false
same_bound (Some x) None = false
same_bound (Some x) (Some y) = int_eq x y

abbrev pub same_option : Option Matrix → Option Matrix → Bool
same_option None None = true
same_option None (Some y) = false
same_option (Some x) None = false
same_option (Some x) (Some y) = same_list (same_list same_bound) x y

unfoldable pub same_value : Octagon → Octagon → Bool
same_value a b = nat_eq a.dims b.dims && same_option a.matrix b.matrix

-- ---- cells

-- what is stored at a point, and how many changes by join are left to it
pub record Cell : Type 0 where
  pub value : Octagon
  pub left : ℕ

abbrev pub no_cell : Cell
no_cell = record { value = bottom_value 0; left = 0 }

abbrev pub cell_at : List Cell → ℕ → Cell
cell_at cells p = slice_index_or cells p no_cell

-- the new value of a cut point: its join with the source while joins are left, then its widening
abbrev pub risen : (Octagon → Octagon → Octagon) → Octagon → ℕ → Octagon → Octagon
risen widen x left v = if nat_eq left 0 then widen x v else join_value x v

abbrev pub left_after : Octagon → Octagon → ℕ → ℕ
left_after w x left = if same_value w x then left else left - 1

abbrev pub counted : Octagon → Cell → Cell
counted w cell = record { value = w; left = left_after w cell.value cell.left }

-- a cell after a visit of the ascent, and of the descent: a cut point's, and another one's
unfoldable pub ascended : (Octagon → Octagon → Octagon) → Bool → Cell → Octagon → Cell
ascended widen true cell v = counted (risen widen cell.value cell.left v) cell
ascended widen false cell v = record { value = v; left = cell.left }

unfoldable pub descended : Bool → Cell → Octagon → Cell
descended true cell v = record { value = narrow_value cell.value v; left = cell.left }
descended false cell v = record { value = v; left = cell.left }

-- a cell after a visit of the ascent, or of the descent
abbrev pub stepped : (Octagon → Octagon → Octagon) → Bool → Bool → Cell → Octagon → Cell
stepped widen true cut cell v = descended cut cell v
stepped widen false cut cell v = ascended widen cut cell v

-- ---- rounds

-- what a visit gives a point, by the kind of step, the cut points and the sources
abbrev pub next_by : (Bool → Cell → Octagon → Cell) → (ℕ → Bool) → (ℕ → List Cell → Octagon) → ℕ → List Cell → Cell
next_by step cut source p cells = step (cut p) (cell_at cells p) (source p cells)

abbrev pub visit : (ℕ → List Cell → Cell) → ℕ → List Cell → List Cell
visit next p cells = slice_set cells p (next p cells)

-- visits in order: what an earlier one replaced is read by the later ones
abbrev pub visits : (ℕ → List Cell → Cell) → List ℕ → List Cell → List Cell
visits next [] cells = cells
visits next (p ∷ order) cells = visits next order (visit next p cells)

-- some visit of the round changes a value
abbrev pub changing : (ℕ → List Cell → Cell) → List ℕ → List Cell → Bool
changing next [] cells = false
changing next (p ∷ order) cells = not (same_value (next p cells).value (cell_at cells p).value) || changing next order (visit next p cells)

-- rounds up to and including the first that changes nothing, at most so many; and their number
pub record Ascended : Type 0 where
  pub cells : List Cell
  pub rounds : ℕ

abbrev pub ascended_in : List Cell → ℕ → Ascended
ascended_in cells rounds = record { cells = cells; rounds = rounds }

unfoldable pub ascent : (ℕ → List Cell → Cell) → List ℕ → ℕ → ℕ → List Cell → Ascended
ascent next order zero done cells = ascended_in cells done
ascent next order (suc fuel) done cells =
    if changing next order cells then ascent next order fuel (done + 1) (visits next order cells)
    else ascended_in (visits next order cells) (done + 1)

-- a visit of a point that isn't marked changes nothing
abbrev pub IsSettled : (ℕ → List Cell → Cell) → List Cell → List Bool → Type 0
IsSettled next cells marks = (p : ℕ) → p < length cells → slice_index_or marks p false ≡ false → next p cells ≡ cell_at cells p

unfoldable pub repeated : (ℕ → List Cell → Cell) → List ℕ → ℕ → List Cell → List Cell
repeated next order zero cells = cells
repeated next order (suc k) cells = repeated next order k (visits next order cells)
