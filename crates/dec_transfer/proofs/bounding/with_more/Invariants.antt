use Rattle.std.proofs.Common.{◌≡◌, ◌++◌, take}
use Rattle.dec_transfer.proofs.bounding.with_more.Given as goal

abbrev pub invariant-loop-k : goal.invariant-loop-k
invariant-loop-k l = l.all.items ≡ l.fn.first.items ++ take l.k l.fn.second.items
