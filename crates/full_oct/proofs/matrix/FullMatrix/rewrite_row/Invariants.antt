use Rattle.full_oct.proofs.Rows.{Rewritten}
use Rattle.full_oct.proofs.matrix.FullMatrix.rewrite_row.Given as goal

-- the columns so far are rewritten
abbrev pub invariant-loop-j : goal.invariant-loop-j
invariant-loop-j g l = Rewritten (goal.F-post g l.entry) l.fn.self l.self l.fn.i l.j
