use Rattle.std.proofs.Common.{Some, subst, sym, ◌∙◌}
use Rattle.spl_core.specs.Graph.{move_of}
use Rattle.conc_analysis.specs.Environment.{Environment}
use Rattle.conc_analysis.specs.Fits.{IsMoveIn}
use Rattle.conc_analysis.specs.Plan.{stage_in}
use Rattle.conc_analysis.proofs.Planning.{move_fits}
use Rattle.conc_analysis.proofs.Interfering.{nothing_written, something_written}
use Rattle.conc_analysis.proofs.writing.write_of.Goals as goal

pub action_write-requires-clause-over : goal.action_write-requires-clause-over
action_write-requires-clause-over c =
    let s = c.args.system.now in
    subst (λ (z : Environment). IsMoveIn z (move_of c.core-core.result.now c.edge_at-edge.result.action)) c.in-Some.is
    (move_fits c.core-core.result.now s.core s.sharing (stage_in c.args.points.now c.args.writes.now) c.args.e c.edge_at-edge.result c.in_ok-from.from c.core-core.ensures.value c.core-core.ensures.known c.core-core.ensures.threaded c.requires.edge
    c.edge_at-edge.ensures.found c.in_ok-from.ensures)

pub returns-in-None : goal.returns-in-None
returns-in-None c v =
    let s = c.args.system.now in
    nothing_written c.core-core.result.now s.core s.sharing (stage_in c.args.points.now c.args.writes.now) c.args.e v c.edge_at-edge.result c.in_ok-from.from c.core-core.ensures.value c.edge_at-edge.ensures.found c.in_ok-from.ensures (sym c.in-None.is)

pub returns : goal.returns
returns c v =
    let s = c.args.system.now in
    something_written c.core-core.result.now s.core s.sharing c.threads.result.now (stage_in c.args.points.now c.args.writes.now) c.args.e v c.owner-t.result c.edge_at-edge.result c.in_ok-from.from c.in-Some.ranges c.in_ok-w-in-Some.w c.core-core.ensures.value c.edge_at-edge.ensures.found c.in_ok-from.ensures c.in-Some.is
    c.owner-t.ensures.found c.threads.ensures (c.in_ok-w-in-Some.ensures v)
