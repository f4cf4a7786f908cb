use Rattle.spl_core.specs.Graph.{expr_at, exprs_in}
use Rattle.transfer_def.proofs.Conditions.{dims-at_most, over-dims, equal-is}
use Rattle.full_oct.proofs.value.FullValue.equal.Goals as goal

pub at_most-requires-2-clause-over_first : goal.at_most-requires-2-clause-over_first
at_most-requires-2-clause-over_first c =
    let trees = exprs_in c.args.core.now in
    over-dims c.in_ok-first.first.dims c.args.self.now.dims (expr_at trees c.args.b) (dims-at_most (expr_at trees c.args.a) (expr_at trees c.args.b) c.args.self.now c.in_ok-first.first c.in_ok-first.ensures) c.requires.over_second

pub at_most-requires-2-clause-over_second : goal.at_most-requires-2-clause-over_second
at_most-requires-2-clause-over_second c =
    let trees = exprs_in c.args.core.now in
    over-dims c.in_ok-first.first.dims c.args.self.now.dims (expr_at trees c.args.a) (dims-at_most (expr_at trees c.args.a) (expr_at trees c.args.b) c.args.self.now c.in_ok-first.first c.in_ok-first.ensures) c.requires.over_first

pub returns : goal.returns
returns c =
    let trees = exprs_in c.args.core.now in
    equal-is (expr_at trees c.args.a) (expr_at trees c.args.b) c.args.self.now c.in_ok-first.first c.in_ok-both.both c.in_ok-first.ensures c.in_ok-both.ensures
