use Rattle.std.proofs.Common.{◌≡◌, false}
use Rattle.oct_def.specs.Table.{some_index}
use Rattle.oct_def.specs.Tight.{crossing}
use Rattle.full_oct.proofs.matrix.FullMatrix.has_crossing.Given as goal

-- no two unary entries so far have a negative sum
abbrev pub invariant-loop-i : goal.invariant-loop-i
invariant-loop-i l = some_index l.i (crossing l.self) ≡ false
