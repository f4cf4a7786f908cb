use Rattle.conc_analysis.specs.Plan.{stage_in}
use Rattle.conc_analysis.proofs.Planning.{not_joined, joined}
use Rattle.conc_analysis.proofs.equation.with_edge.Goals as goal

pub returns-then-edge_at-p : goal.returns-then-edge_at-p
returns-then-edge_at-p c =
    let s = c.args.system.now in
    not_joined c.core-core.result.now s.core s.sharing (stage_in c.args.points.now c.args.writes.now) c.args.p c.args.e c.edge_at.result c.args.v c.core-core.ensures.value c.edge_at.ensures.found c.if-edge_at-p.true

pub returns : goal.returns
returns c =
    let s = c.args.system.now in
    joined c.core-core.result.now s.core s.sharing (stage_in c.args.points.now c.args.writes.now) c.args.p c.args.e c.edge_at.result c.args.v c.in_ok-new.new c.in_ok-r.r c.core-core.ensures.value c.edge_at.ensures.found c.if-edge_at-p.false
    c.in_ok-new.ensures c.in_ok-r.ensures
