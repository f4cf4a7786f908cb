use Rattle.std.proofs.Common.{◌≡◌, ℕ, ◌<◌, true}
use Rattle.oct_def.specs.Bound.{at_most}
use Rattle.inv_check.specs.Entry.{entry_of}
use Rattle.inv_check.proofs.below.row_is_below.Given as goal

abbrev pub invariant-loop-j : goal.invariant-loop-j
invariant-loop-j g l = (k : ℕ) → k < l.j → at_most (entry_of (g.D.Domain.meaning l.a) l.i k) (entry_of (g.D.Domain.meaning l.b) l.i k) ≡ true
