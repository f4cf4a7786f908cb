use Rattle.std.proofs.Common.{◌≡◌, ◌++◌, map, take, drop}
use Rattle.dec_oct.specs.Cut.{relabelled}
use Rattle.dec_oct.proofs.walk.relabel.Given as goal

abbrev pub invariant-loop-i : goal.invariant-loop-i
invariant-loop-i l = l.labels.items ≡ map (relabelled l.from l.to) (take l.i l.initial.labels.items) ++ drop l.i l.initial.labels.items
