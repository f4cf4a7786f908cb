use Rattle.std.proofs.Common.{Some, map, sym, ap, arith, ◌∙◌}
use Rattle.std.specs.List.{range_with_len}
use Rattle.interval_form.specs.declared.interval.Interval.{Interval}
use Rattle.conc_front.specs.Sharing.{Sharing}
use Rattle.conc_analysis.specs.Interference.{Interference, range_read}
use Rattle.conc_analysis.specs.Plan.{stage_in}
use Rattle.conc_analysis.specs.Tables.{rows_in}
use Rattle.conc_analysis.proofs.Planning.{point_read, read_main, read_thread}
use Rattle.conc_analysis.proofs.reading.read.Goals as goal

pub returns-in_ok-r-in-Some : goal.returns-in_ok-r-in-Some
returns-in_ok-r-in-Some c =
    let s = c.args.system.now in
    let v = sym c.in-Some.is ∙ point_read c.args.points.now c.args.p c.index-points-p.result (omega (arith, c.requires.point, c.requires.long)) c.index-points-p.is in
    read_main c.core-core.result.now s.core s.sharing (stage_in c.args.points.now c.args.writes.now) c.args.p c.owner-owner.result c.procs.result c.proc_at-dims.result c.in-Some.ranges c.in_ok-r-in-Some.r (rows_in c.deref.result.now)
    c.core-core.ensures.value (record { owner_is = c.owner-owner.ensures.found; proc_is = c.proc_at-dims.ensures.found }) c.procs.ensures.count c.if-owner-procs.true (ap rows_in (c.deref.ensures.value ∙ c.new-silence.ensures.items)) v
    (c.in_ok-r-in-Some.ensures ∙ ap (λ (z : Sharing). map (range_read z (rows_in c.deref.result.now) c.owner-owner.result c.in-Some.ranges) (range_with_len 0 c.proc_at-dims.result.dims)) c.threads.ensures)

pub returns-in_ok-r-in-Some-2 : goal.returns-in_ok-r-in-Some-2
returns-in_ok-r-in-Some-2 c =
    let s = c.args.system.now in
    let v = sym c.in-Some.is ∙ point_read c.args.points.now c.args.p c.index-points-p.result (omega (arith, c.requires.point, c.requires.long)) c.index-points-p.is in
    read_thread c.core-core.result.now s.core s.sharing (stage_in c.args.points.now c.args.writes.now) c.args.p c.owner-owner.result c.procs.result c.proc_at-dims.result c.in-Some.ranges c.in_ok-r-in-Some-2.r
    c.core-core.ensures.value (record { owner_is = c.owner-owner.ensures.found; proc_is = c.proc_at-dims.ensures.found }) c.procs.ensures.count c.procs.ensures.known.main c.if-owner-procs.false v
    (c.in_ok-r-in-Some-2.ensures ∙ ap (λ (z : Sharing). map (range_read z (rows_in c.args.writes.now) c.owner-owner.result c.in-Some.ranges) (range_with_len 0 c.proc_at-dims.result.dims)) c.threads-else-owner-procs.ensures)
