-- What the entries of files in memory stand for: a log of puts, of which the last of a name counts.
use Rattle.std.specs.Prelude.{◌≡◌, ℕ, ◌<◌, ◌≤◌, List, [], length, drop, map, slice_index_or, Option, None, Some}
use Rattle.std.specs.List.{fold}
use Rattle.std.specs.FinMap as finite
use Rattle.spl_io.specs.Store.{Store}
use Rattle.spl_io.specs.declared.mem_files.Entry.{Entry}
use Rattle.spl_io.specs.declared.mem_files.Hand.{Hand}

-- the files after one more put
abbrev pub put_entry : Store → Entry → Store
put_entry files entry = finite.insert files entry.name.items entry.bytes.items

-- the files that these puts made, the first of them first
abbrev pub store_of : List Entry → Store
store_of entries = fold put_entry finite.empty entries

-- the bytes of the entry at this place
abbrev pub bytes_at : List Entry → ℕ → List ℕ
bytes_at entries place = slice_index_or (map (λ entry. entry.bytes.items) entries) place []

-- the bytes that are left of the file in hand
abbrev pub left_of : List Entry → Option Hand → List ℕ
left_of entries None = []
left_of entries (Some hand) = drop hand.from (bytes_at entries hand.entry)

-- the file in hand is an entry, and what was read lies within it
abbrev pub IsHand : List Entry → Option Hand → Type 0
IsHand entries None = Unit {0}
IsHand entries (Some hand) = (hand.entry < length entries) × (hand.from ≤ length (bytes_at entries hand.entry))

-- the place of the last entry of this name, if there is one
abbrev pub Finds : List Entry → List ℕ → Option ℕ → Type 0
Finds entries name None = finite.get (store_of entries) name ≡ None
Finds entries name (Some place) = (place < length entries) × (finite.get (store_of entries) name ≡ Some (bytes_at entries place))
