-- The laws of the tight closure of matrices with small entries.
use Rattle.std.specs.Prelude.{◌≡◌, ◌≢◌, ◌↔◌, ℕ, ◌+◌, ◌*◌, ◌/◌, ◌<◌, List, length, slice_index_or, Some, None, ℤ, pos, ◌*ℤ◌, ◌-ℤ◌, ◌≤ℤ◌}
use Rattle.oct_def.specs.Bound.{Bound, low_limit, top_limit}
use Rattle.oct_def.specs.Table.{Matrix, at}
use Rattle.oct_def.specs.Matrix.{IsMatrix, Meets, signed_value}
use Rattle.oct_def.specs.Tight.{tight}
use Rattle.tight_laws.specs.Quick.{quick, quick_once, without}
use Rattle.tight_laws.specs.Restricted.{restricted}

-- 4n + 4 times the size of a finite entry is at most 2^61
abbrev pub IsSmall : ℕ → Bound → Type 0
IsSmall n None = Unit {0}
IsSmall n (Some x) = (low_limit ≤ℤ (pos (4 * n + 4) *ℤ x)) × ((pos (4 * n + 4) *ℤ x) ≤ℤ top_limit)

-- a coherent matrix over n variables with 0 on the diagonal and small entries
pub record IsSmallMatrix (n : ℕ) (m : Matrix) : Type 0 where
  pub matrix : IsMatrix n m
  pub small : (i j : ℕ) → IsSmall n (at m i j)

-- the tight closure is Bottom exactly where no integer state meets the matrix
abbrev pub TightIsExact : Type 0
TightIsExact = (n : ℕ) (m : Matrix) → IsSmallMatrix n m → (tight m ≡ None) ↔ ((s : List ℤ) → Meets s m → ⊥)

-- each finite entry of the tight closure is attained by an integer state that meets the tight closure
abbrev pub TightIsAttained : Type 0
TightIsAttained = (n : ℕ) (m r : Matrix) → IsSmallMatrix n m → tight m ≡ Some r → (i j : ℕ) (x : ℤ) → at r i j ≡ Some x
    → (s : List ℤ) × (Meets s r) × (signed_value s j -ℤ signed_value s i ≡ x)

-- the tight closure is its own tight closure
abbrev pub TightIsAgain : Type 0
TightIsAgain = (n : ℕ) (m r : Matrix) → IsSmallMatrix n m → tight m ≡ Some r → tight r ≡ Some r

-- two matrices have the same entries outside the rows and columns of v
pub record SameBut (v : ℕ) (a b : Matrix) : Type 0 where
  pub same : (i j : ℕ) → i / 2 ≢ v → j / 2 ≢ v → at a i j ≡ at b i j

-- after a change of the rows and columns of one variable of a matrix that is its own tight closure, the quick closure is
-- the tight closure
abbrev pub QuickIsTight : Type 0
QuickIsTight = (n v : ℕ) (old m : Matrix) → v < n → IsMatrix n old → tight old ≡ Some old → IsSmallMatrix n m → SameBut v old m → quick v m ≡ tight m

-- where the matrix of the other variables alone is its own tight closure, the quick closure is the tight closure
abbrev pub QuickAlone : Type 0
QuickAlone = (n v : ℕ) (m : Matrix) → v < n → IsSmallMatrix n m → tight (without v m) ≡ Some (without v m) → quick v m ≡ tight m

-- one pass over the other variables suffices, in both cases
abbrev pub OnePassIsTight : Type 0
OnePassIsTight = (n v : ℕ) (old m : Matrix) → v < n → IsMatrix n old → tight old ≡ Some old → IsSmallMatrix n m → SameBut v old m → quick_once v m ≡ tight m

abbrev pub OnePassAlone : Type 0
OnePassAlone = (n v : ℕ) (m : Matrix) → v < n → IsSmallMatrix n m → tight (without v m) ≡ Some (without v m) → quick_once v m ≡ tight m

-- a restriction of a matrix that is its own tight closure is so too, in whichever order the variables are listed
abbrev pub RestrictionIsTight : Type 0
RestrictionIsTight = (n : ℕ) (vs : List ℕ) (m : Matrix) → IsMatrix n m → ((k : ℕ) → k < length vs → slice_index_or vs k 0 < n) → tight m ≡ Some m → tight (restricted vs m) ≡ Some (restricted vs m)
