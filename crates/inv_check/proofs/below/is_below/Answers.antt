use Rattle.std.proofs.Common.{arith}
use Rattle.inv_check.proofs.Entries.{value_below}
use Rattle.inv_check.proofs.below.is_below.Goals as goal

pub returns-clause-yes : goal.returns-clause-yes
returns-clause-yes g c =
    let m = g.D.Domain.meaning in
    λ _. value_below c.args.dims (m c.args.a.now) (m c.args.b.now) c.known.ensures.value c.known-2.ensures.value c.requires.dims c.requires.same
    c.if-is_bottom-2.ensures.bottom (λ i j p q. c.loop-i.invariant i j (omega arith) q)
