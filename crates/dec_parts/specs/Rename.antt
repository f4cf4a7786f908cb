-- Values whose variables are those of another one under other numbers.
use Rattle.std.specs.Prelude.{◌≡◌, ℕ, ◌+◌, ◌*◌, ◌/◌, ◌%◌, ◌<◌, ◌≤◌, ◌⊎◌, nat_eq, Bool, true, Option, Some, None, List, length, slice_index_or, pos, if◌then◌else◌}
use Rattle.std.specs.Option.{option_map}
use Rattle.oct_def.specs.Bound.{Bound}
use Rattle.oct_def.specs.Table.{Matrix, table, at}
use Rattle.oct_def.specs.Octagon.{Octagon}
use Rattle.block_partition.specs.Partition.{member, block, home, IsIn}
use Rattle.block_partition.specs.Changes.{given_label, IsGroupedBy}
use Rattle.block_laws.specs.Assembly.{matrix, restrict}
use Rattle.dec_oct.specs.Value.{Blocks, marked, whole}
use Rattle.dec_oct.specs.Cost.{IsMarkedBlock}

-- the old variable that a new one is, if it is one
abbrev pub origin : List (Option ℕ) → ℕ → Option ℕ
origin origins v = slice_index_or origins v None

-- the same of signed dimensions
abbrev pub signed_origin : ℕ → Option ℕ → Option ℕ
signed_origin i None = None
signed_origin i (Some u) = Some (2 * u + i % 2)

unfoldable pub origin_dimension : List (Option ℕ) → ℕ → Option ℕ
origin_dimension origins i = signed_origin i (origin origins (i / 2))

-- the old entry between two signed dimensions that are old ones; else none
abbrev pub picked : Matrix → Option ℕ → Option ℕ → Bound
picked m None q = None
picked m (Some p) None = None
picked m (Some p) (Some q) = at m p q

-- and 0 on the diagonal
unfoldable pub renamed_entry : List (Option ℕ) → Matrix → ℕ → ℕ → Bound
renamed_entry origins m i j = if nat_eq i j then Some (pos 0) else picked m (origin_dimension origins i) (origin_dimension origins j)

unfoldable pub renamed_matrix : List (Option ℕ) → Matrix → Matrix
renamed_matrix origins m = table (2 * length origins) (renamed_entry origins m)

unfoldable pub renamed_value : List (Option ℕ) → Octagon → Octagon
renamed_value origins v = record { dims = length origins; matrix = option_map (renamed_matrix origins) v.matrix }

-- each origin is one of the first n variables
abbrev pub AreOrigins : ℕ → List (Option ℕ) → Type 0
AreOrigins n origins = (v u : ℕ) → origin origins v ≡ Some u → u < n

-- each member of a block keeps its number
abbrev pub KeepNumbers : List (Option ℕ) → List ℕ → Type 0
KeepNumbers origins vs = (i : ℕ) → i < length vs → origin origins (member vs i) ≡ Some (member vs i)

-- and no other variable is one of them
pub record AreUnmoved (origins : List (Option ℕ)) (vs : List ℕ) : Type 0 where
  pub keep : KeepNumbers origins vs
  pub only : (v u : ℕ) → origin origins v ≡ Some u → IsIn vs u → v ≡ u

-- a mark is kept where a block of the result is one of the old blocks and its members are unmoved
pub record KeepsOwnMarks (origins : List (Option ℕ)) (a r : Blocks) : Type 0 where
  pub kept : (p c : ℕ) → p < length a.partition → c < length r.partition → block a.partition p ≡ block r.partition c → AreUnmoved origins (block r.partition c) → marked a.marks p ≡ true → marked r.marks c ≡ true

abbrev pub KeepsOwnMarksOf : List (Option ℕ) → Option Blocks → Option Blocks → Type 0
KeepsOwnMarksOf origins None r = r ≡ None
KeepsOwnMarksOf origins (Some a) None = ⊥
KeepsOwnMarksOf origins (Some a) (Some r) = KeepsOwnMarks origins a r

-- ---- the blocks

-- no other variable than v is the old one u
abbrev pub IsAlone : List (Option ℕ) → ℕ → ℕ → Type 0
IsAlone origins v u = (w : ℕ) → w < length origins → (w ≡ v → ⊥) → origin origins w ≡ Some u → ⊥

-- the number by which a variable finds its block: that of its old variable's block, or one above all blocks that its old
-- variable, in no block, has for itself; none where it needs no block
pub record IsNumber (bs : List (List ℕ)) (origins : List (Option ℕ)) (v : ℕ) (number : Option ℕ) : Type 0 where
  pub new : origin origins v ≡ None → number ≡ None
  pub held : (u : ℕ) → origin origins v ≡ Some u → home bs u < length bs → number ≡ Some (home bs u)
  pub free : (u : ℕ) → origin origins v ≡ Some u → length bs ≤ home bs u → (number ≡ Some (512 + u)) ⊎ ((number ≡ None) × IsAlone origins v u)

pub record AreNumbers (bs : List (List ℕ)) (origins : List (Option ℕ)) (numbers : List (Option ℕ)) : Type 0 where
  pub size : length numbers ≡ length origins
  pub each : (v : ℕ) → v < length origins → IsNumber bs origins v (given_label numbers v)

-- the blocks under the new numbers
pub record AreRenamedBlocks (bs : List (List ℕ)) (origins : List (Option ℕ)) (cs : List (List ℕ)) : Type 0 where
  pub numbers : List (Option ℕ)
  pub are : AreNumbers bs origins numbers
  pub grouped : IsGroupedBy numbers cs

-- ---- the parts

-- the part over a block, with a mark that is true only for a marked block of the value, and for each such one whose members
-- keep their numbers
pub record IsRenamedPart (n : ℕ) (origins : List (Option ℕ)) (a : Blocks) (vs : List ℕ) (m : Matrix) (mark : Bool) : Type 0 where
  pub words : m ≡ restrict vs (renamed_matrix origins (whole n a))
  pub yes : mark ≡ true → IsMarkedBlock a vs m
  pub kept : KeepNumbers origins vs → IsMarkedBlock a vs m → mark ≡ true

pub record AreRenamedParts (n : ℕ) (origins : List (Option ℕ)) (a : Blocks) (ds : List (List ℕ)) (ms : List Matrix) (marks : List Bool) : Type 0 where
  pub count : length ms ≡ length ds
  pub size : length marks ≡ length ds
  pub each : (c : ℕ) → c < length ds → IsRenamedPart n origins a (block ds c) (matrix ms c) (marked marks c)
