use Rattle.std.proofs.Common.{ℕ, ◌<◌}
use Rattle.dec_parts.specs.Lower.{bound_in, TouchesOne}
use Rattle.dec_parts.proofs.lower.are_touched.Given as goal

abbrev pub invariant-loop-k : goal.invariant-loop-k
invariant-loop-k l = (i : ℕ) → i < l.k → TouchesOne (bound_in l.bounds i) l.members → ⊥
