use Rattle.block_laws.specs.Assembly.{assembly}
use Rattle.dec_oct.specs.Cut.{IsCutUpTo}
use Rattle.dec_oct.proofs.cut.cut_partition.Given as goal

abbrev pub invariant-loop-b : goal.invariant-loop-b
invariant-loop-b l = IsCutUpTo l.dims l.partition (assembly l.dims l.partition l.matrices) l.b l.cut
