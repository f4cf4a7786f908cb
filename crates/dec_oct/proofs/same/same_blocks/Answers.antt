use Rattle.std.proofs.Common.{arith, []}
use Rattle.dec_oct.proofs.Sames.{lists-same}
use Rattle.dec_oct.proofs.same.same_blocks.Goals as goal

pub returns-clause-yes : goal.returns-clause-yes
returns-clause-yes c =
    let e = c.len.ensures.count in
    let f = c.len-2.ensures.count in
    let g = c.if-len.false in
    let p = c.requires.first in
    let q = c.requires.second in
    λ _. (lists-same c.args.p.now c.args.q.now [] c.loop-b.b (omega arith) c.loop-b.invariant.members (omega arith), lists-same c.args.ms.now c.args.ns.now [] c.loop-b.b (omega arith) c.loop-b.invariant.words (omega arith))
