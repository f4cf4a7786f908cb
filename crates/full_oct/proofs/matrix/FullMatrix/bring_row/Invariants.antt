use Rattle.transfer_def.specs.Back.{least_below, brought_from}
use Rattle.full_oct.proofs.Bringing.{Brought}
use Rattle.full_oct.proofs.matrix.FullMatrix.bring_row.Given as goal

-- the columns so far are brought
abbrev pub invariant-loop-j : goal.invariant-loop-j
invariant-loop-j l = Brought (λ p q. least_below l.j (brought_from l.dims l.args l.exit p q l.fn.i)) l.fn.self l.self
