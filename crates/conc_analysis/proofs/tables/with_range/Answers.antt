use Rattle.std.proofs.Common.{arith, ◌∙◌}
use Rattle.conc_analysis.specs.Met.{range_with}
use Rattle.conc_analysis.proofs.Coding.{more, few, with_all}
use Rattle.conc_analysis.proofs.tables.with_range.Goals as goal

pub loop-v-preserved : goal.loop-v-preserved
loop-v-preserved c =
    more (range_with c.args.ranges.now c.args.x c.args.i) c.loop-v.changed.items c.push.new.self.items c.loop-v.v c.range_with.result c.loop-v.invariant c.in_ok-push.ensures.items c.range_with.ensures

pub of-requires : goal.of-requires
of-requires c =
    record { few = few (range_with c.args.ranges.now c.args.x c.args.i) c.loop-v.changed.items c.loop-v.v c.loop-v.invariant (omega (arith, c.loop-v.auto.v-end, c.dims-v-end.ensures.few)) }

pub returns : goal.returns
returns c =
    c.of.ensures ∙ with_all c.args.ranges.now c.loop-v.changed.items c.args.x c.args.i c.loop-v.v (omega (arith, c.loop-v-test.false, c.loop-v.auto.v-end, c.dims-v-end.ensures.count)) c.loop-v.invariant
