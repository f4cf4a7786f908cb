use Rattle.std.proofs.Common.{◌≡◌, length}
use Rattle.tight_closure.proofs.Rows.{RowsDone}
use Rattle.dec_lattice.specs.Operation.{combined_entry}
use Rattle.dec_lattice.proofs.combine.combine_rows.Given as goal

abbrev pub invariant-loop-i : goal.invariant-loop-i
invariant-loop-i l = RowsDone (combined_entry l.op l.fn.dst l.src) l.fn.dst l.i l.dst × (length l.row ≡ length l.src)
