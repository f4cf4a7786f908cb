use Rattle.std.proofs.Common.{◌≡◌, ◌≢◌, ap, sym, arith, ◌∙◌, length}
use Rattle.interval_form.specs.Interval.{range_at}
use Rattle.conc_analysis.proofs.Coding.{ranges_differ, ranges_differ_at, same_differ, same_lengths, same_all}
use Rattle.conc_analysis.proofs.environment.same_ranges.Goals as goal

pub returns-then-ne : goal.returns-then-ne
returns-then-ne c =
    same_differ c.args.a.now c.args.b.now c.loop-v.v
    (ranges_differ_at c.args.a.now c.args.b.now c.loop-v.v c.range_at.result c.range_at-in-loop-v.result (ranges_differ c.range_at.result c.range_at-in-loop-v.result c.ne.result c.ne.ensures c.if-ne.true) c.range_at.ensures c.range_at-in-loop-v.ensures)

pub returns : goal.returns
returns c = same_all c.args.a.now c.args.b.now c.loop-v.v (omega (arith, c.if-dims.false, c.dims.ensures.count, c.dims-2.ensures.count)) (omega (arith, c.loop-v-test.false, c.loop-v.auto.v-end, c.dims-v-end.ensures.count)) c.loop-v.invariant
