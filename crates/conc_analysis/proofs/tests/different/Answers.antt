use Rattle.spl_core.specs.Graph.{expr_at, exprs_in}
use Rattle.conc_analysis.proofs.Testing.{different-is}
use Rattle.conc_analysis.proofs.tests.different.Goals as goal

pub returns : goal.returns
returns c =
    let trees = exprs_in c.args.core.now in
    different-is (expr_at trees c.args.a) (expr_at trees c.args.b) c.args.v.now c.in_ok-less.less c.in_ok-more.more c.in_ok-either.either c.in_ok-less.ensures c.in_ok-more.ensures c.in_ok-either.ensures
