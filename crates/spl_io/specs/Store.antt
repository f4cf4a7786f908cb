-- Files by name, as far as an object tells of them.
use Rattle.std.specs.Prelude.{◌≡◌, ◌≤◌, ◌+◌, ◌^◌, ℕ, List, ◌++◌, length, Option, None, Some}
use Rattle.std.specs.FinMap as map
use Rattle.std.specs.Ordering.{nat_cmp}
use Rattle.std.specs.Cmp.Lexicographic.{slice_cmp}

-- files by name: a finite map from names to bytes
abbrev pub Store : Type 0
Store = map.FinMap (slice_cmp nat_cmp) (List ℕ)

-- what an object tells of its files: all of them, or nothing
abbrev pub Told : Type 0
Told = Option Store

-- the most bytes that a whole file may have
abbrev pub most_bytes : ℕ
most_bytes = 2 ^ 20

-- the files are told, and none has this name
abbrev pub Lacks : Told → List ℕ → Type 0
Lacks None name = ⊥
Lacks (Some files) name = map.get files name ≡ None

-- where the files are told, the one of this name has these bytes
abbrev pub Has : Told → List ℕ → List ℕ → Type 0
Has None name bytes = Unit {0}
Has (Some files) name bytes = map.get files name ≡ Some bytes

-- where the files are told, P
abbrev pub WhereTold : Told → Type 0 → Type 0
WhereTold None P = Unit {0}
WhereTold (Some files) P = P

-- where the files are told, these that are left are the last bytes of the one of this name
abbrev pub EndsWith : Told → List ℕ → List ℕ → Type 0
EndsWith None name left = Unit {0}
EndsWith (Some files) name left = (came : List ℕ) × (map.get files name ≡ Some (came ++ left))

-- where the files are told, one byte more than so many came of the one of this name, and these are left after them
abbrev pub IsLongOver : ℕ → Told → List ℕ → List ℕ → Type 0
IsLongOver most None name left = Unit {0}
IsLongOver most (Some files) name left = (came : List ℕ) × (map.get files name ≡ Some (came ++ left)) × (length came ≡ most + 1)

-- the files are told, and the one of this name has more bytes than so many
abbrev pub HasOver : ℕ → Told → List ℕ → Type 0
HasOver most None name = ⊥
HasOver most (Some files) name = (bytes : List ℕ) × (map.get files name ≡ Some bytes) × (most + 1 ≤ length bytes)

-- the same of the most that a whole file may have
abbrev pub IsLong : Told → List ℕ → List ℕ → Type 0
IsLong told name left = IsLongOver most_bytes told name left

abbrev pub IsTooLong : Told → List ℕ → Type 0
IsTooLong told name = HasOver most_bytes told name
