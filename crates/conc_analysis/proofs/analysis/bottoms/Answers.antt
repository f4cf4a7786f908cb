use Rattle.std.proofs.Common.{None, refl, arith}
use Rattle.conc_analysis.proofs.Interfering.{table_more}
use Rattle.conc_analysis.proofs.Turning.{none_at, bottoms_are}
use Rattle.conc_analysis.proofs.analysis.bottoms.Goals as goal

pub loop-p-preserved : goal.loop-p-preserved
loop-p-preserved c = table_more none_at c.loop-p.points.items c.push.new.self.items c.loop-p.p None c.loop-p.invariant c.in_ok-push.ensures.items refl

pub returns : goal.returns
returns c = bottoms_are c.args.core.now.owners c.loop-p.points.items c.loop-p.p (omega (arith, c.loop-p-test.false, c.loop-p.auto.p-end, c.points-p-end.ensures.count)) c.loop-p.invariant
