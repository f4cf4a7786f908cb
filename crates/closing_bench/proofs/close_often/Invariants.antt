use Rattle.std.proofs.Common.{◌≡◌}
use Rattle.closing_bench.proofs.Ranges.{Good}
use Rattle.closing_bench.proofs.close_often.Given as goal

abbrev pub invariant-loop : goal.invariant-loop
invariant-loop l = record { good : Good l.fn.m l.m; room : l.scratch ≡ l.fn.scratch }
