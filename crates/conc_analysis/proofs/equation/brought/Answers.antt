use Rattle.std.proofs.Common.{subst, sym}
use Rattle.spl_core.specs.Parts.{Parts}
use Rattle.conc_analysis.specs.Plan.{stage_in}
use Rattle.conc_analysis.proofs.Planning.{move_fits, brings}
use Rattle.conc_analysis.proofs.equation.brought.Goals as goal

pub moved-requires-clause-over : goal.moved-requires-clause-over
moved-requires-clause-over c =
    let s = c.args.system.now in
    move_fits c.core-core.result.now s.core s.sharing (stage_in c.args.points.now c.args.writes.now) c.args.e c.edge_at-edge.result c.in_ok-from.from c.core-core.ensures.value c.core-core.ensures.known c.core-core.ensures.threaded c.requires.edge
    c.edge_at-edge.ensures.found c.in_ok-from.ensures

pub returns : goal.returns
returns c =
    let s = c.args.system.now in
    brings c.core-core.result.now s.core s.sharing (stage_in c.args.points.now c.args.writes.now) c.args.e c.edge_at-edge.result c.in_ok-from.from c.in_ok-v.v c.core-core.ensures.value
    c.edge_at-edge.ensures.found c.in_ok-from.ensures c.in_ok-v.ensures
