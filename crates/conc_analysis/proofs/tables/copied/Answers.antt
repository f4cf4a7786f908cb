use Rattle.std.proofs.Common.{arith, ◌∙◌}
use Rattle.interval_form.specs.Interval.{range_at}
use Rattle.conc_analysis.proofs.Coding.{more, few, copy_all}
use Rattle.conc_analysis.proofs.tables.copied.Goals as goal

pub loop-v-preserved : goal.loop-v-preserved
loop-v-preserved c =
    more (range_at c.args.ranges.now) c.loop-v.copy.items c.push.new.self.items c.loop-v.v c.range_at.result c.loop-v.invariant c.in_ok-push.ensures.items c.range_at.ensures

pub of-requires : goal.of-requires
of-requires c =
    record { few = few (range_at c.args.ranges.now) c.loop-v.copy.items c.loop-v.v c.loop-v.invariant (omega (arith, c.loop-v.auto.v-end, c.dims-v-end.ensures.few)) }

pub returns : goal.returns
returns c =
    c.of.ensures ∙ copy_all c.args.ranges.now c.loop-v.copy.items c.loop-v.v (omega (arith, c.loop-v-test.false, c.loop-v.auto.v-end, c.dims-v-end.ensures.count)) c.loop-v.invariant
