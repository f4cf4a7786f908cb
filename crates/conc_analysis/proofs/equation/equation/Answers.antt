use Rattle.std.proofs.Common.{arith, length, ap}
use Rattle.spl_core.specs.Parts.{Parts}
use Rattle.conc_analysis.specs.Plan.{stage_in}
use Rattle.conc_analysis.proofs.Planning.{entry_equation, folded_equation, edge_more}
use Rattle.conc_analysis.proofs.equation.equation.Goals as goal

pub returns-then-proc_at-p : goal.returns-then-proc_at-p
returns-then-proc_at-p c =
    let s = c.args.system.now in
    entry_equation c.core-core.result.now s.core s.sharing (stage_in c.args.points.now c.args.writes.now) c.args.p c.owner.result c.proc_at.result c.in_ok-v.v c.core-core.ensures.value
    (record { owner_is = c.owner.ensures.found; proc_is = c.proc_at.ensures.found }) c.if-proc_at-p.true c.in_ok-v.ensures

pub loop-e-preserved : goal.loop-e-preserved
loop-e-preserved c =
    let s = c.args.system.now in
    edge_more s.core s.sharing (stage_in c.args.points.now c.args.writes.now) c.args.p c.loop-e.e c.loop-e.v c.in_ok-v-2.v
    (omega (arith, c.loop-e-test.true, c.edge_count-e-end.ensures.count, ap (λ (z : Parts). length z.edges) c.core-core.ensures.value)) c.loop-e.invariant c.in_ok-v-2.ensures

pub returns : goal.returns
returns c =
    let s = c.args.system.now in
    folded_equation c.core-core.result.now s.core s.sharing (stage_in c.args.points.now c.args.writes.now) c.args.p c.owner.result c.loop-e.e c.proc_at.result c.loop-e.v c.core-core.ensures.value
    (record { owner_is = c.owner.ensures.found; proc_is = c.proc_at.ensures.found }) c.if-proc_at-p.false
    (omega (arith, c.loop-e-test.false, c.edge_count-e-end.ensures.count, ap (λ (z : Parts). length z.edges) c.core-core.ensures.value)) c.loop-e.invariant
