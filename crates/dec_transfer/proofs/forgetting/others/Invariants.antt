use Rattle.dec_transfer.specs.Forgotten.{AreOthers}
use Rattle.dec_transfer.proofs.forgetting.others.Given as goal

abbrev pub invariant-loop-v : goal.invariant-loop-v
invariant-loop-v l = AreOthers l.v l.target l.origins.items
