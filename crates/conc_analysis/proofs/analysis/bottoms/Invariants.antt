use Rattle.std.proofs.Common.{◌≡◌, map}
use Rattle.std.specs.List.{range_with_len}
use Rattle.conc_analysis.proofs.Turning.{none_at}
use Rattle.conc_analysis.proofs.analysis.bottoms.Given as goal

abbrev pub invariant-loop-p : goal.invariant-loop-p
invariant-loop-p l = l.points.items ≡ map none_at (range_with_len 0 l.p)
