use Rattle.std.proofs.Common.{◌≡◌, length}
use Rattle.dec_oct.proofs.Stored.{Stored}
use Rattle.dec_oct.proofs.tabulate.fill.Given as goal

abbrev pub invariant-rows : goal.invariant-rows
invariant-rows g l = (length l.m ≡ length l.fn.m) × Stored (goal.F-post g l.entry) l.m l.i 0

abbrev pub invariant-columns : goal.invariant-columns
invariant-columns g l = (length l.m ≡ length l.fn.m) × Stored (goal.F-post g l.entry) l.m l.i l.j
