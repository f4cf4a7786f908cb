-- Words are a list of byte lists.
use Rattle.std.specs.Prelude.{ℕ, List, [], slice_index_or}

-- the word at this place
abbrev pub name_at : List (List ℕ) → ℕ → List ℕ
name_at words place = slice_index_or words place []
