use Rattle.std.proofs.Common.{None, get_or, length, ap, arith, ◌∙◌}
use Rattle.spl_core.specs.Parts.{Parts}
use Rattle.conc_analysis.specs.Plan.{stage_in}
use Rattle.conc_analysis.proofs.Interfering.{source_more, sources_are}
use Rattle.conc_analysis.proofs.writing.sources.Goals as goal

pub loop-e-preserved : goal.loop-e-preserved
loop-e-preserved c =
    let s = c.args.system.now in (
      c.in_ok-add_edge.ensures.size ∙ c.loop-e.invariant.0,
      λ v l. source_more s.core s.sharing (stage_in c.args.points.now c.args.writes.now) c.args.t v c.loop-e.e (get_or c.loop-e.row.items v None) (get_or c.add_edge.new.row.items v None)
          (omega (arith, c.loop-e-test.true, c.edge_count-e-end.ensures.count, ap (λ (z : Parts). length z.edges) c.core.ensures.value)) (c.loop-e.invariant.1 v l)
          (c.in_ok-add_edge.ensures.joined v (omega (arith, l, c.loop-e.invariant.0))),
    )

pub returns : goal.returns
returns c =
    let s = c.args.system.now in
    sources_are s.core s.sharing (stage_in c.args.points.now c.args.writes.now) c.args.t c.args.n c.loop-e.e c.loop-e.row.items c.loop-e.invariant.0
    (omega (arith, c.loop-e-test.false, c.edge_count-e-end.ensures.count, ap (λ (z : Parts). length z.edges) c.core.ensures.value)) c.loop-e.invariant.1
