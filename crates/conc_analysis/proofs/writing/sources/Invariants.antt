use Rattle.std.proofs.Common.{◌≡◌, ℕ, ◌<◌, None, length, get_or, take}
use Rattle.std.specs.List.{fold}
use Rattle.conc_analysis.specs.Equations.{with_writes_of}
use Rattle.conc_analysis.specs.Plan.{graph_in, stage_in}
use Rattle.conc_analysis.proofs.writing.sources.Given as goal

abbrev pub invariant-loop-e : goal.invariant-loop-e
invariant-loop-e l = (length l.row.items ≡ l.n) × ((v : ℕ) → v < l.n → get_or l.row.items v None ≡ fold (with_writes_of (graph_in l.system) l.system.sharing (stage_in l.points l.writes) l.t v) None (take l.e (graph_in l.system).arcs))
