use Rattle.oct_def.specs.Tight.{strong_entry}
use Rattle.tight_closure.proofs.Rows.{RowsDone}
use Rattle.tight_closure.proofs.ends.strengthen_rows.Given as goal

abbrev pub invariant-loop-i : goal.invariant-loop-i
invariant-loop-i l = RowsDone (strong_entry l.fn.m) l.fn.m l.i l.m
