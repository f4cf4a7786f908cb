use Rattle.dec_oct.specs.Cut.{IsSound, IsDone}
use Rattle.dec_oct.proofs.walk.chain_labels.Given as goal

abbrev pub invariant-rows : goal.invariant-rows
invariant-rows l = IsSound l.n l.m l.labels.items × IsDone l.m l.labels.items l.u 0

abbrev pub invariant-columns : goal.invariant-columns
invariant-columns l = IsSound l.n l.m l.labels.items × IsDone l.m l.labels.items l.u l.w
