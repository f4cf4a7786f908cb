use Rattle.std.proofs.Common.{Some, ap, arith, ◌∙◌}
use Rattle.conc_analysis.specs.Equations.{entry_range_at}
use Rattle.conc_analysis.proofs.Coding.{more, few, whole}
use Rattle.conc_analysis.proofs.equation.started.Goals as goal

pub loop-d-preserved : goal.loop-d-preserved
loop-d-preserved c =
    more (entry_range_at c.args.threads.now c.args.t c.args.exit.now) c.loop-d.ranges.items c.push.new.self.items c.loop-d.d c.entry_range.result c.loop-d.invariant c.in_ok-push.ensures.items c.entry_range.ensures

pub of-requires : goal.of-requires
of-requires c =
    record { few = few (entry_range_at c.args.threads.now c.args.t c.args.exit.now) c.loop-d.ranges.items c.loop-d.d c.loop-d.invariant (omega (arith, c.loop-d.auto.d-end, c.requires)) }

pub returns : goal.returns
returns c =
    ap (λ z. Some z) (c.of.ensures ∙ whole (entry_range_at c.args.threads.now c.args.t c.args.exit.now) c.loop-d.ranges.items c.loop-d.d c.args.n c.loop-d.invariant (omega (arith, c.loop-d-test.false, c.loop-d.auto.d-end)))
