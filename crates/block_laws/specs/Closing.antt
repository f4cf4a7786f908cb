-- The tight closure of an assembly, by the closures of its blocks.
use Rattle.std.specs.Prelude.{◌≡◌, ℕ, ◌*◌, ◌<◌, Some, None, List, length}
use Rattle.oct_def.specs.Table.{Matrix}
use Rattle.oct_def.specs.Tight.{strengthening, tight}
use Rattle.block_partition.specs.Partition.{block}
use Rattle.block_laws.specs.Assembly.{matrix, IsParts, restrict, assembly}
use Rattle.block_laws.specs.Components.{IsComponents, IsMerged}

-- closing block by block, then strengthening the whole
abbrev pub TightOfAssembly : Type 0
TightOfAssembly = (n : ℕ) (bs : List (List ℕ)) (ms ns : List Matrix) → IsParts n bs ms → ((b : ℕ) → b < length bs → tight (matrix ms b) ≡ Some (matrix ns b)) → tight (assembly n bs ms) ≡ Some (strengthening (assembly n bs ns))

abbrev pub TightOfEmptyBlock : Type 0
TightOfEmptyBlock = (n : ℕ) (bs : List (List ℕ)) (ms : List Matrix) (b : ℕ) → IsParts n bs ms → b < length bs → tight (matrix ms b) ≡ None → tight (assembly n bs ms) ≡ None

-- a closed matrix stays at a further strengthening
abbrev pub StrengtheningOfClosed : Type 0
StrengtheningOfClosed = (n : ℕ) (m x : Matrix) → length m ≡ 2 * n → tight m ≡ Some x → strengthening x ≡ x

-- the tight closure of an assembly of components: close each block, merge those of variables that have a bound,
-- strengthen each merged block; the blocks are the components again
abbrev pub ClosingOfComponents : Type 0
ClosingOfComponents = (n : ℕ) (bs cs : List (List ℕ)) (ms ns rs : List Matrix) → IsParts n bs ms → IsComponents n bs (assembly n bs ms)
    → ((b : ℕ) → b < length bs → tight (matrix ms b) ≡ Some (matrix ns b))
    → IsMerged n bs cs (assembly n bs ns)
    → ((c : ℕ) → c < length cs → matrix rs c ≡ strengthening (restrict (block cs c) (assembly n bs ns)))
    → (tight (assembly n bs ms) ≡ Some (assembly n cs rs)) × IsComponents n cs (assembly n cs rs)

-- a block that is no part of a merge keeps the matrix that its closing gives
abbrev pub KeptBlock : Type 0
KeptBlock = (n : ℕ) (bs : List (List ℕ)) (ms ns : List Matrix) (b : ℕ) (vs : List ℕ) → IsParts n bs ms → length ns ≡ length bs → ((b : ℕ) → b < length bs → tight (matrix ms b) ≡ Some (matrix ns b))
    → b < length bs → vs ≡ block bs b → strengthening (restrict vs (assembly n bs ns)) ≡ matrix ns b
