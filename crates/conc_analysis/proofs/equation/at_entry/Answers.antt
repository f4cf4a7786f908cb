use Rattle.std.proofs.Common.{Some, None, refl, sym, ap, arith, ◌∙◌}
use Rattle.conc_front.specs.Sharing.{Sharing}
use Rattle.conc_analysis.specs.Environment.{Environment}
use Rattle.conc_analysis.specs.Equations.{started_by}
use Rattle.conc_analysis.specs.Plan.{stage_in}
use Rattle.conc_analysis.proofs.Planning.{top_entry, thread_entry}
use Rattle.conc_analysis.proofs.equation.at_entry.Goals as goal

pub returns-then-owner-main : goal.returns-then-owner-main
returns-then-owner-main c =
    let s = c.args.system.now in
    top_entry c.core-core.result.now s.core s.sharing (stage_in c.args.points.now c.args.writes.now) c.args.p c.owner-owner.result c.procs-main.result c.proc_at-dims.result (Some c.in_ok-top.top)
    c.core-core.ensures.value (record { owner_is = c.owner-owner.ensures.found; proc_is = c.proc_at-dims.ensures.found }) c.procs-main.ensures.count c.if-owner-main.true c.in_ok-top.ensures

pub returns-in-None : goal.returns-in-None
returns-in-None c =
    let s = c.args.system.now in
    thread_entry c.core-core.result.now s.core s.sharing (stage_in c.args.points.now c.args.writes.now) c.args.p c.owner-owner.result c.procs-main.result c.proc_at-dims.result c.proc_at.result c.in_ok-exit.exit None
    c.core-core.ensures.value (record { owner_is = c.owner-owner.ensures.found; proc_is = c.proc_at-dims.ensures.found }) c.procs-main.ensures.count c.if-owner-main.false c.proc_at.ensures.found c.in_ok-exit.ensures
    (sym (ap (started_by s.sharing c.owner-owner.result c.proc_at-dims.result.dims) c.in-None.is))

pub returns : goal.returns
returns c =
    let s = c.args.system.now in
    thread_entry c.core-core.result.now s.core s.sharing (stage_in c.args.points.now c.args.writes.now) c.args.p c.owner-owner.result c.procs-main.result c.proc_at-dims.result c.proc_at.result c.in_ok-exit.exit (Some c.in_ok-first-in-Some.first)
    c.core-core.ensures.value (record { owner_is = c.owner-owner.ensures.found; proc_is = c.proc_at-dims.ensures.found }) c.procs-main.ensures.count c.if-owner-main.false c.proc_at.ensures.found c.in_ok-exit.ensures
    (c.in_ok-first-in-Some.ensures ∙ (ap (λ (z : Sharing). started_by z c.owner-owner.result c.proc_at-dims.result.dims (Some c.in-Some.ranges)) c.threads.ensures ∙ sym (ap (started_by s.sharing c.owner-owner.result c.proc_at-dims.result.dims) c.in-Some.is)))
