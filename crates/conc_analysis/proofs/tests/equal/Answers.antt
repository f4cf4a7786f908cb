use Rattle.spl_core.specs.Graph.{expr_at, exprs_in}
use Rattle.conc_analysis.proofs.Testing.{expression-after, equal-is}
use Rattle.conc_analysis.proofs.tests.equal.Goals as goal

pub at_most-requires-2-clause-over_first : goal.at_most-requires-2-clause-over_first
at_most-requires-2-clause-over_first c =
    let trees = exprs_in c.args.core.now in
    expression-after (expr_at trees c.args.a) (expr_at trees c.args.b) (expr_at trees c.args.b) c.args.v.now c.in_ok-first.first c.in_ok-first.ensures c.requires.over_second

pub at_most-requires-2-clause-over_second : goal.at_most-requires-2-clause-over_second
at_most-requires-2-clause-over_second c =
    let trees = exprs_in c.args.core.now in
    expression-after (expr_at trees c.args.a) (expr_at trees c.args.b) (expr_at trees c.args.a) c.args.v.now c.in_ok-first.first c.in_ok-first.ensures c.requires.over_first

pub returns : goal.returns
returns c =
    let trees = exprs_in c.args.core.now in
    equal-is (expr_at trees c.args.a) (expr_at trees c.args.b) c.args.v.now c.in_ok-first.first c.in_ok-both.both c.in_ok-first.ensures c.in_ok-both.ensures
