use Rattle.std.proofs.Common.{◌∙◌}
use Rattle.dec_parts.proofs.Taken.{all_taken-next}
use Rattle.dec_parts.proofs.lower.take_all.Goals as goal

pub loop-k-preserved : goal.loop-k-preserved
loop-k-preserved c =
    let r = all_taken-next c.args.members.now c.loop-k.m c.take.new.m c.args.bounds.now c.loop-k.k c.loop-k-test.true c.take.ensures in
    (r.0 ∙ c.loop-k.invariant.0, r.1 ∙ c.loop-k.invariant.1)
