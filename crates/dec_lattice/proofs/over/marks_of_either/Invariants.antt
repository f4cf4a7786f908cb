use Rattle.block_partition.specs.Partition.{block}
use Rattle.block_laws.specs.Assembly.{matrix}
use Rattle.dec_oct.proofs.Flags.{IsFlagged}
use Rattle.dec_lattice.specs.Over.{held}
use Rattle.dec_lattice.specs.Marks.{IsEither}
use Rattle.dec_lattice.proofs.over.marks_of_either.Given as goal

abbrev pub invariant-loop-c : goal.invariant-loop-c
invariant-loop-c l = IsFlagged (λ k. IsEither (held l.a) (held l.b) (block l.others k) (matrix l.parts k)) l.c l.marks.items
