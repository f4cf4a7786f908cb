use Rattle.report.specs.Listed.{listed_pair, matrix_at}
use Rattle.report.proofs.Steps.{one_more}
use Rattle.report.proofs.listing.list_variable.Goals as goal

pub loop-u-preserved : goal.loop-u-preserved
loop-u-preserved g c =
    one_more (listed_pair c.args.full (matrix_at (g.D.Domain.meaning c.args.value.now)) c.args.v) c.loop-u.u c.args.out.now.items c.loop-u.out.items c.list_pair.new.out.items
    c.loop-u.invariant c.in_ok-list_pair.ensures
