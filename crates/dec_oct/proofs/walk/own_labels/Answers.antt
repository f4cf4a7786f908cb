use Rattle.dec_oct.proofs.Walks.{own-pushed}
use Rattle.dec_oct.proofs.walk.own_labels.Goals as goal

pub loop-v-preserved : goal.loop-v-preserved
loop-v-preserved c = own-pushed c.loop-v.labels.items _ c.loop-v.v c.loop-v.invariant c.in_ok-push.ensures.items
