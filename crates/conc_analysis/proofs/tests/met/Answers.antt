use Rattle.std.proofs.Common.{arith, ◌∙◌, rules, FitsSigned}
use Rattle.std.specs.Int.{w64}
use Rattle.std.proofs.lemmas.Int.{to_z-of_z}
use Rattle.conc_analysis.specs.Met.{met_at}
use Rattle.conc_analysis.proofs.Coding.{more, few, met_is, met_all}
use Rattle.conc_analysis.proofs.tests.met.Goals as goal

pub loop-v-preserved : goal.loop-v-preserved
loop-v-preserved c =
    let below : FitsSigned w64 c.listed_word-below.result = search rules in
    let above : FitsSigned w64 c.listed_word-above.result = search rules in
    let unary = simp (to_z-of_z w64 c.listed_word-below.result below, to_z-of_z w64 c.listed_word-above.result above) at c.of_words-unary.ensures in
    more (met_at c.args.ranges.now c.args.bounds.now) c.loop-v.met.items c.push.new.self.items c.loop-v.v c.meet_range.result c.loop-v.invariant c.in_ok-push.ensures.items
    (met_is c.args.ranges.now c.args.bounds.now c.loop-v.v c.meet_range.result c.range_at.result c.of_words-unary.result c.listed_word-below.result c.listed_word-above.result
    c.meet_range.ensures c.range_at.ensures unary c.listed_word-below.ensures c.listed_word-above.ensures)

pub of-requires : goal.of-requires
of-requires c =
    record { few = few (met_at c.args.ranges.now c.args.bounds.now) c.loop-v.met.items c.loop-v.v c.loop-v.invariant (omega (arith, c.loop-v.auto.v-end, c.dims-v-end.ensures.few)) }

pub returns : goal.returns
returns c = c.of.ensures ∙ met_all c.args.ranges.now c.args.bounds.now c.loop-v.met.items c.loop-v.v (omega (arith, c.loop-v-test.false, c.loop-v.auto.v-end, c.dims-v-end.ensures.count)) c.loop-v.invariant
