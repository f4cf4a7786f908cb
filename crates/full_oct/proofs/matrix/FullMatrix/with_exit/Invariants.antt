use Rattle.transfer_def.specs.Dimensions.{extended}
use Rattle.transfer_def.specs.Back.{least_below, brought_in_row}
use Rattle.full_oct.proofs.Bringing.{Brought}
use Rattle.full_oct.proofs.matrix.FullMatrix.with_exit.Given as goal

-- the rows so far are brought
abbrev pub invariant-loop-i : goal.invariant-loop-i
invariant-loop-i l = Brought (λ p q. least_below l.i (brought_in_row l.dims l.args l.outputs l.exit p q)) (extended l.dims l.outputs l.self) l.m
