use Rattle.std.proofs.Common.{ℕ, ◌<◌}
use Rattle.block_laws.specs.Components.{Joins}
use Rattle.dec_oct.proofs.walk.is_joined.Given as goal

abbrev pub invariant-loop-w : goal.invariant-loop-w
invariant-loop-w l = (k : ℕ) → k < l.w → Joins l.m l.u k → ⊥
