use Rattle.std.proofs.Common.{◌≡◌, None, replicate, rules, arith}
use Rattle.conc_analysis.specs.Rounds.{writes_row}
use Rattle.conc_analysis.specs.Solved.{no_writes}
use Rattle.conc_analysis.specs.Tables.{rows_in}
use Rattle.conc_analysis.proofs.Interfering.{rows_more, rows_are}
use Rattle.conc_analysis.proofs.Turning.{blank_row}
use Rattle.conc_analysis.proofs.writing.no_writes.Goals as goal

pub loop-t-preserved : goal.loop-t-preserved
loop-t-preserved c =
    let n = c.proc_at-n.result.dims in
    let blank : c.in_ok-row.row.items ≡ replicate c.proc_at-n.result.dims None = search rules in
    rows_more (writes_row no_writes n) c.loop-t.rows.items c.push.new.self.items c.in_ok-row.row c.loop-t.t c.loop-t.invariant c.in_ok-push.ensures.items (blank_row n c.loop-t.t c.in_ok-row.row.items blank)

pub returns : goal.returns
returns c =
    let s = c.args.system.now in
    rows_are c.core-core.result.now s.core no_writes (rows_in c.loop-t.rows.items) c.loop-t.t c.procs-main.result c.proc_at-n.result c.core-core.ensures.value c.procs-main.ensures.count c.proc_at-n.ensures.found
    (omega (arith, c.loop-t-test.false, c.loop-t.auto.t-end)) c.loop-t.invariant
