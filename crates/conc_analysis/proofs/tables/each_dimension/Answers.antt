use Rattle.std.proofs.Common.{arith, ◌∙◌}
use Rattle.conc_analysis.specs.Environment.{dimension_by}
use Rattle.conc_analysis.specs.Tables.{by_ends}
use Rattle.conc_analysis.proofs.Coding.{more, few, all_of, dimension_is}
use Rattle.conc_analysis.proofs.tables.each_dimension.Goals as goal

pub loop-v-preserved : goal.loop-v-preserved
loop-v-preserved c =
    let f = by_ends c.args.operation in
    more (dimension_by f c.args.a.now c.args.b.now) c.loop-v.ranges.items c.push.new.self.items c.loop-v.v c.of.result c.loop-v.invariant c.in_ok-push.ensures.items
    (dimension_is f c.args.a.now c.args.b.now c.loop-v.v c.of.result c.range_at.result c.range_at-in-loop-v.result c.of.ensures c.range_at.ensures c.range_at-in-loop-v.ensures)

pub of-requires-2 : goal.of-requires-2
of-requires-2 c =
    record { few = few (dimension_by (by_ends c.args.operation) c.args.a.now c.args.b.now) c.loop-v.ranges.items c.loop-v.v c.loop-v.invariant (omega (arith, c.loop-v.auto.v-end, c.dims-v-end.ensures.few)) }

pub returns : goal.returns
returns c =
    c.of-2.ensures ∙ all_of (by_ends c.args.operation) c.args.a.now c.args.b.now c.loop-v.ranges.items c.loop-v.v (omega (arith, c.loop-v-test.false, c.loop-v.auto.v-end, c.dims-v-end.ensures.count)) c.loop-v.invariant
