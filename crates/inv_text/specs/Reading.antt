-- What is left of a text while it is read.
use Rattle.std.specs.Prelude.{◌≡◌, ◌≢◌, ℕ, ◌/◌, ◌^◌, ◌<◌, ◌≤◌, Option, Some, List, [], ◌∷◌, ◌++◌, length}
use Rattle.std.specs.List.{flat_map, range_with_len}
use Rattle.oct_def.specs.Bound.{InRange, IsEven}
use Rattle.oct_def.specs.Table.{Matrix}
use Rattle.oct_def.specs.Matrix.{opposite}
use Rattle.oct_def.specs.Octagon.{IsValueOver}
use Rattle.inv_text.specs.declared.bound.InvBound.{InvBound}
use Rattle.inv_text.specs.Invariants.{matrix_in, dims_in}
use Rattle.inv_text.specs.CertText.{line_text}
use Rattle.inv_text.specs.Listed.{half_bounds, item_text}
use Rattle.inv_text.specs.Places.{order_key}
use Rattle.inv_text.specs.Words.{IsShort}

-- a bound whose text is read back
pub record IsShortItem (b : InvBound) : Type 0 where
  pub row : b.row < 2 ^ 32
  pub column : b.column < 2 ^ 32
  pub word : IsShort b.word

-- a bound that a matrix of so many rows may list
pub record IsListable (rows : ℕ) (b : InvBound) : Type 0 where
  pub row : b.row < rows
  pub half : b.column / 2 ≤ b.row / 2
  pub off_diagonal : b.row ≢ b.column
  pub in_range : InRange (Some b.word)
  pub even : b.column ≡ opposite b.row → IsEven (Some b.word)

-- the places of the bounds come before this one
abbrev pub AllBefore : ℕ → List InvBound → Type 0
AllBefore key [] = Unit {0}
AllBefore key (b ∷ bs) = (order_key b < key) × AllBefore key bs

-- a matrix has some of the bounds of a line, whose others are still in the text
pub record IsLeft (whole : Matrix) (rest : List ℕ) (m : Matrix) (text : List ℕ) : Type 0 where
  pub todo : List InvBound
  pub listed : half_bounds m ++ todo ≡ half_bounds whole
  pub text_is : text ≡ flat_map item_text todo ++ 10 ∷ rest

-- the lines of so many points from p on
abbrev pub lines_from : List (Option Matrix) → ℕ → ℕ → List ℕ
lines_from x p k = flat_map (line_text x) (range_with_len p k)

-- the first so many points have values of their sizes
pub record AreInvariantsUpTo (dims : List ℕ) (p : ℕ) (x : List (Option Matrix)) : Type 0 where
  pub count : length x ≡ p
  pub values : (q : ℕ) → q < p → IsValueOver (dims_in dims q) (matrix_in x q)
