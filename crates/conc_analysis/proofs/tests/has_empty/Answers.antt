use Rattle.std.proofs.Common.{◌≡◌, ℕ, false, true, sym, ap, arith, ◌∙◌}
use borrow.Author.Count.{below_more}
use Rattle.conc_analysis.specs.EnvironmentMove.{is_empty_at}
use Rattle.conc_analysis.proofs.Coding.{crossed_at, found_empty, none_empty}
use Rattle.conc_analysis.proofs.tests.has_empty.Goals as goal

pub returns-then-are_crossed : goal.returns-then-are_crossed
returns-then-are_crossed c =
    found_empty c.args.ranges.now c.loop-v.v (omega (arith, c.loop-v-test.true, c.loop-v.auto.v-end, c.dims-v-end.ensures.count))
    (crossed_at c.args.ranges.now c.loop-v.v c.range_at-range.result c.are_crossed.result c.range_at-range.ensures c.are_crossed.ensures ∙ c.if-are_crossed.true)

pub loop-v-preserved : goal.loop-v-preserved
loop-v-preserved c =
    below_more (λ (k : ℕ). is_empty_at c.args.ranges.now k ≡ false) c.loop-v.v c.loop-v.invariant
    (crossed_at c.args.ranges.now c.loop-v.v c.range_at-range.result c.are_crossed.result c.range_at-range.ensures c.are_crossed.ensures ∙ c.if-are_crossed.false)

pub returns : goal.returns
returns c = none_empty c.args.ranges.now c.loop-v.v (omega (arith, c.loop-v-test.false, c.loop-v.auto.v-end, c.dims-v-end.ensures.count)) c.loop-v.invariant
