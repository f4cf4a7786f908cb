use Rattle.std.proofs.Common.{◌≡◌, ℕ, ◌<◌, length, get_or}
use Rattle.std.specs.Prelude.{pos}
use Rattle.oct_def.specs.Bound.{bound_of}
use Rattle.oct_def.specs.Table.{at}
use Rattle.full_oct.proofs.matrix.FullMatrix.row.Given as goal

-- the words so far are those of the row
abbrev pub invariant-loop-j : goal.invariant-loop-j
invariant-loop-j l = (length l.row.items ≡ l.j) × ((c : ℕ) → c < length l.row.items → bound_of (get_or l.row.items c (pos 0)) ≡ at l.self l.i c)
