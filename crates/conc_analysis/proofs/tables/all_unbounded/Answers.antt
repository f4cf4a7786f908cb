use Rattle.std.proofs.Common.{Some, refl, ap, arith, ◌∙◌}
use Rattle.interval_form.specs.Interval.{unbounded}
use Rattle.conc_analysis.specs.Environment.{no_range}
use Rattle.conc_analysis.proofs.Coding.{more, few, top_is}
use Rattle.conc_analysis.proofs.tables.all_unbounded.Goals as goal

pub loop-v-preserved : goal.loop-v-preserved
loop-v-preserved c = more no_range c.loop-v.ranges.items c.push.new.self.items c.loop-v.v unbounded c.loop-v.invariant c.in_ok-push.ensures.items refl

pub of-requires : goal.of-requires
of-requires c = record { few = few no_range c.loop-v.ranges.items c.loop-v.v c.loop-v.invariant (omega (arith, c.loop-v.auto.v-end, c.requires)) }

pub returns : goal.returns
returns c = ap (λ xs. Some xs) c.of.ensures ∙ top_is c.args.n c.loop-v.v c.loop-v.ranges.items (omega (arith, c.loop-v-test.false, c.loop-v.auto.v-end)) c.loop-v.invariant
