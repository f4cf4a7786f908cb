use Rattle.std.proofs.Common.{arith}
use Rattle.oct_def.proofs.Tables.{same-matrices}
use Rattle.dec_oct.proofs.same.same_matrix.Goals as goal

pub returns-clause-yes : goal.returns-clause-yes
returns-clause-yes c =
    let r = c.vars.ensures.rows in
    let s = c.vars-2.ensures.rows in
    let t = c.vars-i-end.ensures.rows in
    let e = c.if-vars.false in
    λ _. same-matrices c.args.a.now c.args.b.now c.shape.ensures.square c.shape-2.ensures.square (omega arith) (λ i j p q. c.loop-i.invariant i j (omega arith) q)
