-- Matrices over signed dimensions, and the states that meet one.
-- A variable v has two signed dimensions: V_2v is v and V_2v+1 is -v. The entry (i, j) bounds V_j - V_i.
-- After A. Miné, "The Octagon Abstract Domain", Higher-Order and Symbolic Computation 19 (2006), section 2.
use Rattle.std.specs.Prelude.{◌≡◌, ℕ, ◌+◌, ◌-◌, ◌*◌, ◌/◌, ◌%◌, ◌<◌, nat_eq, Option, Some, None, List, [], length, ℤ, pos, ◌-ℤ◌, neg_ℤ, if◌then◌else◌, slice_index_or}
use Rattle.oct_def.specs.Bound.{Within, InRange, IsEven}
use Rattle.oct_def.specs.Table.{Matrix, at}

-- the other signed dimension of the same variable: one more than an even one, one less than an odd one
abbrev pub opposite : ℕ → ℕ
opposite i = (i + 1) - 2 * (i % 2)

-- the value of a variable in a state; beyond the state's end it is 0
abbrev pub value_at : List ℤ → ℕ → ℤ
value_at s v = slice_index_or s v (pos 0)

-- the value of a signed dimension
abbrev pub signed_value : List ℤ → ℕ → ℤ
signed_value s i = if nat_eq (i % 2) 0 then value_at s (i / 2) else neg_ℤ (value_at s (i / 2))

-- an integer state meets a matrix: every V_j - V_i is within the entry (i, j)
pub record Meets (s : List ℤ) (m : Matrix) : Type 0 where
  pub within : (i j : ℕ) → Within (signed_value s j -ℤ signed_value s i) (at m i j)

-- no state meets Bottom, which is no matrix
abbrev pub MeetsValue : List ℤ → Option Matrix → Type 0
MeetsValue s None = ⊥
MeetsValue s (Some m) = Meets s m

-- as many columns as rows
pub record IsSquare (m : Matrix) : Type 0 where
  pub columns : (i : ℕ) → i < length m → length (slice_index_or m i []) ≡ length m

-- an entry bounds V_j - V_i, and its coherent twin bounds -V_i - -V_j: the two are equal
pub record IsCoherent (m : Matrix) : Type 0 where
  pub twins : (i j : ℕ) → i < length m → j < length m → at m i j ≡ at m (opposite j) (opposite i)

-- a coherent matrix over n variables with entries between the limits and 0 on the diagonal
pub record IsMatrix (n : ℕ) (m : Matrix) : Type 0 where
  pub rows : length m ≡ 2 * n
  pub square : IsSquare m
  pub coherent : IsCoherent m
  pub in_range : (i j : ℕ) → InRange (at m i j)
  pub diagonal : (i : ℕ) → i < length m → at m i i ≡ Some (pos 0)

-- the same with even unary entries, which are twice a bound on one variable
pub record IsEvenMatrix (n : ℕ) (m : Matrix) : Type 0 where
  pub matrix : IsMatrix n m
  pub even : (i : ℕ) → IsEven (at m i (opposite i))
