use Rattle.std.proofs.Common.{◌≡◌, length, subst, arith}
use Rattle.dec_parts.specs.Joined.{IsJoinedBy}
use Rattle.dec_parts.proofs.Joined.{placed-in, joined-start, joined-more}
use Rattle.dec_parts.proofs.lower.joined_by.Goals as goal

pub loop-k-init : goal.loop-k-init
loop-k-init c = joined-start c.args.dims c.args.partition.now _ c.args.bounds.now c.requires.partition c.in_ok-joined.ensures

pub loop-k-preserved : goal.loop-k-preserved
loop-k-preserved c =
    let k = c.loop-k.k in
    let z = placed-in c.args.dims c.args.bounds.now k c.requires.placed c.loop-k-test.true in
    let r = z.row in
    let l = z.column in
    joined-more c.args.dims c.args.partition.now c.loop-k.joined _ c.args.bounds.now k c.requires.few (omega arith) (omega arith) c.loop-k.invariant c.known.ensures.partition c.in_ok-join_variables.ensures

pub returns : goal.returns
returns c =
    let e : c.loop-k.k ≡ length c.args.bounds.now = omega arith in
    subst (λ t. IsJoinedBy c.args.dims c.args.partition.now c.args.bounds.now t c.loop-k.joined) e c.loop-k.invariant
