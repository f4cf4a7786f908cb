use Rattle.std.proofs.Common.{◌≡◌}
use Rattle.oct_def.specs.Tight.{pair_steps}
use Rattle.full_oct.proofs.matrix.FullMatrix.stepped_at_all.Given as goal

-- the steps so far are done
abbrev pub invariant-loop-k : goal.invariant-loop-k
invariant-loop-k l = l.m ≡ pair_steps l.k l.self
