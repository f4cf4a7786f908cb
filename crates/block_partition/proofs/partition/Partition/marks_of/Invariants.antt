use Rattle.block_partition.specs.Relabelling.{IsMarked}
use Rattle.block_partition.proofs.partition.Partition.marks_of.Given as goal

-- the keys so far are marked
abbrev pub invariant-loop-i : goal.invariant-loop-i
invariant-loop-i l = IsMarked l.self l.vars l.i l.marks.items
