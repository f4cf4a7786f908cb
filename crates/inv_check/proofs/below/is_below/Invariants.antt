use Rattle.std.proofs.Common.{◌≡◌, ℕ, ◌*◌, ◌<◌, true}
use Rattle.oct_def.specs.Bound.{at_most}
use Rattle.inv_check.specs.Entry.{entry_of}
use Rattle.inv_check.proofs.below.is_below.Given as goal

abbrev pub invariant-loop-i : goal.invariant-loop-i
invariant-loop-i g l = (k j : ℕ) → k < l.i → j < 2 * l.dims → at_most (entry_of (g.D.Domain.meaning l.a) k j) (entry_of (g.D.Domain.meaning l.b) k j) ≡ true
