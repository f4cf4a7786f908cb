use Rattle.std.proofs.Common.{◌≡◌, ◌+◌, ◌-◌, ◌^◌, min}
use Rattle.oct_def.specs.Tight.{pair_entry}
use Rattle.tight_closure.proofs.Rows.{RowsDone}
use Rattle.tight_closure.proofs.pairs.relax_rows.Given as goal

abbrev pub invariant-loop-i : goal.invariant-loop-i
invariant-loop-i l = record { done : RowsDone (pair_entry l.k l.fn.m) l.fn.m l.i l.m; counted : l.count ≡ min (l.fn.count + l.i) (2 ^ 64 - 1) }
