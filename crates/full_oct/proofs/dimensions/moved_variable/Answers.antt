use Rattle.std.proofs.Common.{sym, arith}
use Rattle.transfer_def.proofs.Dimensions.{moved-found, moved-none}
use Rattle.full_oct.proofs.dimensions.moved_variable.Goals as goal

pub returns-then-targets-k : goal.returns-then-targets-k
returns-then-targets-k c =
    sym (moved-found c.args.first c.args.targets.now c.args.v c.loop-k.k (omega arith) c.loop-k.invariant c.if-targets-k.true)

pub returns : goal.returns
returns c =
    let ts = c.args.targets.now in
    sym (moved-none c.args.first ts c.args.v (λ i p. c.loop-k.invariant i (omega arith)))
