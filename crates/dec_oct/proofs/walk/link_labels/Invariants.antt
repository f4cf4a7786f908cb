use Rattle.dec_oct.proofs.Walks.{KeptSoFar}
use Rattle.dec_oct.proofs.walk.link_labels.Given as goal

abbrev pub invariant-loop-v : goal.invariant-loop-v
invariant-loop-v l = KeptSoFar l.m l.labels.items l.v l.kept.items
