use Rattle.block_laws.specs.Assembly.{assembly}
use Rattle.dec_oct.proofs.Bounded.{IsBoundedSoFar}
use Rattle.dec_oct.proofs.merge.bounded.Given as goal

abbrev pub invariant-loop-v : goal.invariant-loop-v
invariant-loop-v l = IsBoundedSoFar l.dims (assembly l.dims l.partition l.matrices) l.v l.vars.items
