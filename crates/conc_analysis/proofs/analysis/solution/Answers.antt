use Rattle.std.proofs.Common.{◌≡◌, ap, sym, length, map, subst, List, ◌∙◌}
use Rattle.std.specs.List.{range_with_len}
use Rattle.conc_analysis.specs.Environment.{Environment}
use Rattle.conc_analysis.specs.Equations.{read_in}
use Rattle.conc_analysis.specs.Plan.{Plan, graph_in, stage_in}
use Rattle.conc_analysis.specs.Tables.{rows_in}
use Rattle.conc_analysis.proofs.Turning.{all_solved}
use Rattle.conc_analysis.proofs.analysis.solution.Goals as goal

pub returns : goal.returns
returns c =
    let s = c.args.system.now in
    all_solved s.core c.core-core.result.now s.sharing c.in_ok-points.points.items c.solve.new.points.items c.solve-2.new.points.items c.in_ok-reads.reads.items
    (rows_in c.in_ok-writes.writes.items) (rows_in c.solve.new.writes.items) (rows_in c.solve-2.new.writes.items) c.as_slice.result.now c.as_slice-2.result.now c.in_ok-alone.alone c.in_ok-rounds.rounds
    c.core-core.ensures.known c.core-core.ensures.threaded c.core-core.ensures.value c.in_ok-points.ensures c.in_ok-writes.ensures (c.as_slice.ensures.value ∙ c.in_ok-main.ensures.points) (c.as_slice-2.ensures.value ∙ c.in_ok-others.ensures.points)
    c.in_ok-alone.ensures.stage c.in_ok-alone.ensures.rounds c.in_ok-rounds.ensures.stage c.in_ok-rounds.ensures.rounds
    (c.in_ok-reads.ensures
    ∙ (ap (λ (z : List Environment). map (read_in (graph_in s) s.sharing (stage_in z c.as_slice-4.result.now)) (range_with_len 0 (length s.core.owners))) c.as_slice-3.ensures.value
    ∙ ap (λ z. map (read_in (graph_in s) s.sharing (stage_in c.solve-2.new.points.items z)) (range_with_len 0 (length s.core.owners))) c.as_slice-4.ensures.value))
