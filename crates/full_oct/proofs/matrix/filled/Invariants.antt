use Rattle.std.proofs.Common.{◌≡◌, ◌+◌, ◌*◌, length}
use Rattle.full_oct.proofs.Places.{Filled}
use Rattle.full_oct.proofs.matrix.filled.Given as goal

-- the rows that are done are full
abbrev pub invariant-rows : goal.invariant-rows
invariant-rows g l = (length l.words.items ≡ l.i * l.size) × Filled l.size (goal.F-post g l.entry) l.words.items

-- and so is the row that is begun, up to its column
abbrev pub invariant-columns : goal.invariant-columns
invariant-columns g l = (length l.words.items ≡ l.i * l.size + l.j) × Filled l.size (goal.F-post g l.entry) l.words.items
