use Rattle.std.proofs.Common.{◌≡◌, ◌*◌, ◌≤◌, drop}
use Rattle.spl_core.specs.Parts.{span_dims}
use Rattle.spl_core.specs.Graph.{pairs_in}
use Rattle.transfer_def.specs.Move.{copy_value}
use Rattle.equations.proofs.moves.copied.Given as goal

abbrev pub invariant-loop-k : goal.invariant-loop-k
invariant-loop-k g l = (copy_value (pairs_in (drop (2 * l.k) (span_dims l.core l.pairs))) (g.D.Domain.meaning l.value) ≡ copy_value (pairs_in (span_dims l.core l.pairs)) (g.D.Domain.meaning l.v))
    × ((g.D.Domain.meaning l.value).dims ≡ (g.D.Domain.meaning l.v).dims)
    × (g.D.Domain.work l.fn.dom ≤ g.D.Domain.work l.dom)
