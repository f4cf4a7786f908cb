use Rattle.std.proofs.Common.{sym, arith}
use Rattle.transfer_def.proofs.Dimensions.{moved-found, moved-none}
use Rattle.dec_parts.proofs.moving.moved_variable.Goals as goal

pub returns-then-targets-k : goal.returns-then-targets-k
returns-then-targets-k c = sym (moved-found c.args.first c.args.targets.now c.args.v c.loop-k.k (omega arith) c.loop-k.invariant c.if-targets-k.true)

pub returns : goal.returns
returns c = sym (moved-none c.args.first c.args.targets.now c.args.v (λ i p. c.loop-k.invariant i (omega arith)))
