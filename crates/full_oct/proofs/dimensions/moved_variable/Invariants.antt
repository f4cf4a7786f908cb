use Rattle.full_oct.proofs.Targets.{NoneIs}
use Rattle.full_oct.proofs.dimensions.moved_variable.Given as goal

-- no target so far is the variable
abbrev pub invariant-loop-k : goal.invariant-loop-k
invariant-loop-k l = NoneIs l.targets l.k l.v
