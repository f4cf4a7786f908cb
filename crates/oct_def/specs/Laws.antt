-- The laws of the tight closure and of the lattice, over the definitions alone.
use Rattle.std.specs.Prelude.{◌≡◌, ℕ, ◌⊎◌, ◌↔◌, List, ℤ}
use Rattle.oct_def.specs.Table.{Matrix}
use Rattle.oct_def.specs.Matrix.{Meets, MeetsValue, IsSquare, IsMatrix}
use Rattle.oct_def.specs.Tight.{tight}
use Rattle.oct_def.specs.Octagon.{Octagon, IsOctagon, IsValueOver, MeetsOctagon, bottom_value, top_value, tight_value, join_value, least_matrix, widen_value, narrow_value}

-- an integer state meets the tight closure of a square matrix exactly where it meets the matrix
abbrev pub TightKeepsStates : Type 0
TightKeepsStates = (m : Matrix) (s : List ℤ) → IsSquare m → Meets s m ↔ MeetsValue s (tight m)

-- the tight closure of a coherent matrix between the limits with 0 on the diagonal is a value over its variables,
-- though its unary entries may be odd
abbrev pub TightGivesValues : Type 0
TightGivesValues = (n : ℕ) (m : Matrix) → IsMatrix n m → IsValueOver n (tight m)

-- the tight closure of a value is a value
abbrev pub TightOfValues : Type 0
TightOfValues = (v : Octagon) → IsOctagon v → IsOctagon (tight_value v)

-- a state that meets either side meets the join
abbrev pub JoinIsSound : Type 0
JoinIsSound = (a b : Octagon) (s : List ℤ) → MeetsOctagon s a ⊎ MeetsOctagon s b → MeetsOctagon s (join_value a b)

-- a state that meets either side meets the widening
abbrev pub WideningIsSound : Type 0
WideningIsSound = (a b : Octagon) (s : List ℤ) → MeetsOctagon s a ⊎ MeetsOctagon s b → MeetsOctagon s (widen_value a b)

-- a state that meets both sides meets the narrowing
abbrev pub NarrowingIsSound : Type 0
NarrowingIsSound = (a b : Octagon) (s : List ℤ) → MeetsOctagon s a → MeetsOctagon s b → MeetsOctagon s (narrow_value a b)

-- a state that meets two matrices meets the one of their lesser entries
abbrev pub LeastIsSound : Type 0
LeastIsSound = (a b : Matrix) (s : List ℤ) → Meets s a → Meets s b → Meets s (least_matrix a b)

-- join, widening and narrowing of two values over as many variables are values
abbrev pub JoinGivesValues : Type 0
JoinGivesValues = (a b : Octagon) → IsOctagon a → IsOctagon b → a.dims ≡ b.dims → IsOctagon (join_value a b)

abbrev pub WideningGivesValues : Type 0
WideningGivesValues = (a b : Octagon) → IsOctagon a → IsOctagon b → a.dims ≡ b.dims → IsOctagon (widen_value a b)

abbrev pub NarrowingGivesValues : Type 0
NarrowingGivesValues = (a b : Octagon) → IsOctagon a → IsOctagon b → a.dims ≡ b.dims → IsOctagon (narrow_value a b)

-- top is a value that every state meets
abbrev pub TopIsValue : Type 0
TopIsValue = (n : ℕ) → IsOctagon (top_value n)

abbrev pub TopIsMet : Type 0
TopIsMet = (n : ℕ) (s : List ℤ) → MeetsOctagon s (top_value n)

-- Bottom is a value that no state meets
abbrev pub BottomIsValue : Type 0
BottomIsValue = (n : ℕ) → IsOctagon (bottom_value n)

abbrev pub BottomIsNotMet : Type 0
BottomIsNotMet = (n : ℕ) (s : List ℤ) → MeetsOctagon s (bottom_value n) → ⊥
