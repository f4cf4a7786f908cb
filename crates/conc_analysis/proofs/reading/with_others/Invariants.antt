use Rattle.std.proofs.Common.{◌≡◌}
use Rattle.conc_analysis.specs.Interference.{with_others}
use Rattle.conc_analysis.specs.Tables.{rows_in}
use Rattle.conc_analysis.proofs.reading.with_others.Given as goal

abbrev pub invariant-loop-u : goal.invariant-loop-u
invariant-loop-u l = l.joined ≡ with_others (rows_in l.writes) l.t l.v l.u l.fn.i
