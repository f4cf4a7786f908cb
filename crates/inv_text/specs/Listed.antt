-- The finite half entries of a matrix as a list, and the matrix of such a list.
use Rattle.std.specs.Prelude.{◌≡◌, ℕ, ◌≤◌, Some, None, List, [], ◌∷◌, ◌++◌, length, map, codes, decimal}
use Rattle.std.specs.Fmt.{signed_decimal}
use Rattle.std.specs.List.{flat_map}
use Rattle.oct_def.specs.Bound.{Bound}
use Rattle.oct_def.specs.Table.{Matrix}
use Rattle.oct_def.specs.Matrix.{IsEvenMatrix}
use Rattle.oct_def.specs.Octagon.{top_matrix}
use Rattle.placed_bounds.specs.Bounded.{Placed, all_bounded}
use Rattle.inv_text.specs.declared.bound.InvBound.{InvBound}
use Rattle.inv_text.specs.CertText.{Place, places, told}

-- the bound at a place, if there is one
abbrev pub bound_item : Place → Bound → List InvBound
bound_item p None = []
bound_item p (Some w) = record { row = p.row; column = p.column; word = w } ∷ []

abbrev pub told_item : Matrix → Place → List InvBound
told_item m p = bound_item p (told m p)

-- the finite entries of the half of a matrix off the diagonal, in order of their places
unfoldable pub half_bounds : Matrix → List InvBound
half_bounds m = flat_map (told_item m) (places (length m))

-- a bound with its place
abbrev pub placed_at : InvBound → Placed
placed_at b = record { row = b.row; column = b.column; bound = Some b.word }

-- the matrix over n variables with these bounds and their coherent ones
abbrev pub listed_matrix : ℕ → List InvBound → Matrix
listed_matrix n bs = all_bounded (top_matrix n) (map placed_at bs)

-- the finite half entries of a matrix over n variables with even unary entries
pub record IsListing (n : ℕ) (bs : List InvBound) : Type 0 where
  pub small : n ≤ 256
  pub even : IsEvenMatrix n (listed_matrix n bs)
  pub whole : bs ≡ half_bounds (listed_matrix n bs)

-- the text of a bound: its row, its column and its word, each behind its space
abbrev pub item_text : InvBound → List ℕ
item_text b = codes " " ++ (decimal b.row ++ (codes " " ++ (decimal b.column ++ (codes " " ++ signed_decimal b.word))))
