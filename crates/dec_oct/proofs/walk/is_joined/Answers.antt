use Rattle.std.proofs.Common.{arith}
use Rattle.dec_oct.proofs.Walks.{column_below}
use Rattle.dec_oct.proofs.walk.is_joined.Goals as goal

pub returns-clause-no : goal.returns-clause-no
returns-clause-no c = λ e w k. let b = column_below c.args.m.now c.args.u w k in c.loop-w.invariant w (omega arith) k
