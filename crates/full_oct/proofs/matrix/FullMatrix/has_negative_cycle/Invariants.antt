use Rattle.std.proofs.Common.{◌≡◌, false}
use Rattle.oct_def.specs.Table.{some_index}
use Rattle.oct_def.specs.Tight.{negative_cycle}
use Rattle.full_oct.proofs.matrix.FullMatrix.has_negative_cycle.Given as goal

-- no index so far has a negative entry
abbrev pub invariant-loop-i : goal.invariant-loop-i
invariant-loop-i l = some_index l.i (negative_cycle l.self) ≡ false
