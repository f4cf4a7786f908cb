use Rattle.std.proofs.Common.{arith, ◌∙◌}
use Rattle.conc_analysis.specs.Interference.{range_read}
use Rattle.conc_analysis.specs.Tables.{rows_in}
use Rattle.conc_analysis.proofs.Coding.{more, few, whole}
use Rattle.conc_analysis.proofs.reading.read_by.Goals as goal

pub loop-d-preserved : goal.loop-d-preserved
loop-d-preserved c =
    more (range_read c.args.threads.now (rows_in c.args.writes.now) c.args.t c.args.ranges.now) c.loop-d.read.items c.push.new.self.items c.loop-d.d c.range_read.result c.loop-d.invariant c.in_ok-push.ensures.items c.range_read.ensures

pub of-requires : goal.of-requires
of-requires c =
    record { few = few (range_read c.args.threads.now (rows_in c.args.writes.now) c.args.t c.args.ranges.now) c.loop-d.read.items c.loop-d.d c.loop-d.invariant (omega (arith, c.loop-d.auto.d-end, c.requires)) }

pub returns : goal.returns
returns c =
    c.of.ensures ∙ whole (range_read c.args.threads.now (rows_in c.args.writes.now) c.args.t c.args.ranges.now) c.loop-d.read.items c.loop-d.d c.args.n c.loop-d.invariant (omega (arith, c.loop-d-test.false, c.loop-d.auto.d-end))
