use Rattle.block_partition.specs.Partition.{block}
use Rattle.block_laws.specs.Assembly.{matrix}
use Rattle.dec_oct.specs.Value.{blocks_of}
use Rattle.dec_oct.specs.Cost.{IsMarkedBlock}
use Rattle.dec_oct.proofs.Flags.{IsFlagged}
use Rattle.dec_oct.proofs.marks.kept_marks.Given as goal

abbrev pub invariant-loop-c : goal.invariant-loop-c
invariant-loop-c l = IsFlagged (λ k. IsMarkedBlock (blocks_of l.partition l.matrices l.settled) (block l.made.partition k) (matrix l.made.matrices.items k)) l.c l.kept.items
