use Rattle.std.proofs.Common.{◌≡◌, ℕ, ◌<◌, Some}
use Rattle.std.specs.Prelude.{pos}
use Rattle.oct_def.specs.Table.{at}
use Rattle.dec_oct.proofs.closing.has_zero_diagonal.Given as goal

abbrev pub invariant-loop-i : goal.invariant-loop-i
invariant-loop-i l = (k : ℕ) → k < l.i → at l.m k k ≡ Some (pos 0)
