use Rattle.oct_def.specs.Tight.{pair_entry}
use Rattle.full_oct.proofs.Rows.{Stepped}
use Rattle.full_oct.proofs.matrix.FullMatrix.step.Given as goal

-- the rows so far are stepped
abbrev pub invariant-loop-i : goal.invariant-loop-i
invariant-loop-i l = Stepped (pair_entry l.k l.fn.self) l.fn.self l.self l.i
