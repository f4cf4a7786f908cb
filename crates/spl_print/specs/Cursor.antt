-- A cursor over a text: an offset with its place.
use Rattle.std.specs.Prelude.{◌≡◌, ℕ, ◌+◌, ◌≤◌, List, length}
use Rattle.spl_text.specs.Place.{line_of, column_of}
use Rattle.spl_text.specs.declared.place.Place.{Place}
use Rattle.spl_print.specs.declared.place_cursor.PlaceCursor.{PlaceCursor}

-- the place of an offset; neither number is more than one above the offset
pub record IsPlaceAt (bytes : List ℕ) (offset : ℕ) (place : Place) : Type 0 where
  pub line : place.line ≡ line_of bytes offset
  pub column : place.column ≡ column_of bytes offset
  pub few_lines : place.line ≤ offset + 1
  pub few_columns : place.column ≤ offset + 1

-- the cursor stands in the text, and holds the place of where it stands
pub record IsPlaced (bytes : List ℕ) (cursor : PlaceCursor) : Type 0 where
  pub within : cursor.offset ≤ length bytes
  pub place : IsPlaceAt bytes cursor.offset cursor.place
