use Rattle.std.proofs.Common.{◌≡◌, take}
use Rattle.spl_core.specs.Parts.{span_dims}
use Rattle.equations.proofs.calls.span_items.Given as goal

abbrev pub invariant-loop-k : goal.invariant-loop-k
invariant-loop-k l = l.items.items ≡ take l.k (span_dims l.core l.span)
