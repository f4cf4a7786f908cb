use Rattle.std.proofs.Common.{refl}
use Rattle.conc_analysis.specs.Tables.{rows_in}
use Rattle.conc_analysis.proofs.Planning.{others_start, others_more}
use Rattle.conc_analysis.proofs.reading.with_others.Goals as goal

pub loop-u-init : goal.loop-u-init
loop-u-init c = others_start (rows_in c.args.writes.now) c.args.t c.args.v c.args.i

pub loop-u-preserved : goal.loop-u-preserved
loop-u-preserved c =
    others_more (rows_in c.args.writes.now) c.args.t c.args.v c.loop-u.u c.args.i c.loop-u.joined c.with_other-joined.result c.loop-u.invariant c.with_other-joined.ensures
