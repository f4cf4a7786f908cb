use Rattle.std.proofs.Common.{◌≡◌, arith}
use Rattle.spl_core.specs.Graph.{expr_at, exprs_in}
use Rattle.dec_oct.specs.Value.{octagon}
use Rattle.transfer_def.proofs.Conditions.{dims-at_most, over-dims, equal-is}
use Rattle.dec_transfer.proofs.testing.equal.Goals as goal

pub at_most-requires-2-clause-small : goal.at_most-requires-2-clause-small
at_most-requires-2-clause-small c =
    let trees = exprs_in c.args.core.now in
    let d : c.in_ok-first.first.dims ≡ c.args.v.now.dims = dims-at_most (expr_at trees c.args.a) (expr_at trees c.args.b) (octagon c.args.v.now) (octagon c.in_ok-first.first) c.in_ok-first.ensures.value in
    let l = c.requires.small in
    omega (arith, d, l)

pub at_most-requires-2-clause-over_first : goal.at_most-requires-2-clause-over_first
at_most-requires-2-clause-over_first c =
    let trees = exprs_in c.args.core.now in
    over-dims c.in_ok-first.first.dims c.args.v.now.dims (expr_at trees c.args.b) (dims-at_most (expr_at trees c.args.a) (expr_at trees c.args.b) (octagon c.args.v.now) (octagon c.in_ok-first.first) c.in_ok-first.ensures.value) c.requires.over_second

pub at_most-requires-2-clause-over_second : goal.at_most-requires-2-clause-over_second
at_most-requires-2-clause-over_second c =
    let trees = exprs_in c.args.core.now in
    over-dims c.in_ok-first.first.dims c.args.v.now.dims (expr_at trees c.args.a) (dims-at_most (expr_at trees c.args.a) (expr_at trees c.args.b) (octagon c.args.v.now) (octagon c.in_ok-first.first) c.in_ok-first.ensures.value) c.requires.over_first

pub returns-clause-value : goal.returns-clause-value
returns-clause-value c =
    let trees = exprs_in c.args.core.now in
    equal-is (expr_at trees c.args.a) (expr_at trees c.args.b) (octagon c.args.v.now) (octagon c.in_ok-first.first) (octagon c.in_ok-both.both) c.in_ok-first.ensures.value c.in_ok-both.ensures.value
