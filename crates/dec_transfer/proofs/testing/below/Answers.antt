use Rattle.std.proofs.Common.{rules, ◌≡◌, None, length, sym}
use Rattle.std.specs.Prelude.{IsSome}
use Rattle.spl_core.specs.Graph.{expr_at, exprs_in}
use Rattle.interval_form.specs.Sparse.{form_in}
use Rattle.dec_transfer.proofs.Tested.{count-ranges, over-ranges, below-none, below-tested}
use Rattle.dec_transfer.proofs.testing.below.Goals as goal

pub returns-then-is_none-clause-value : goal.returns-then-is_none-clause-value
returns-then-is_none-clause-value c =
    let trees = exprs_in c.args.core.now in
    let n : c.args.v.now.blocks ≡ None = search rules in
    below-none (expr_at trees c.args.a) (expr_at trees c.args.b) c.args.v.now c.bottom.result c.dims.result c.dims.ensures n c.bottom.ensures.value

pub linearise_difference-requires-clause-over_first : goal.linearise_difference-requires-clause-over_first
linearise_difference-requires-clause-over_first c =
    let s : IsSome c.args.v.now.blocks = search rules in
    over-ranges c.args.v.now.dims c.args.v.now.blocks c.in_ok-ranges.ranges (expr_at (exprs_in c.args.core.now) c.args.a) s c.in_ok-ranges.ensures c.requires.over_first

pub linearise_difference-requires-clause-over_second : goal.linearise_difference-requires-clause-over_second
linearise_difference-requires-clause-over_second c =
    let s : IsSome c.args.v.now.blocks = search rules in
    over-ranges c.args.v.now.dims c.args.v.now.blocks c.in_ok-ranges.ranges (expr_at (exprs_in c.args.core.now) c.args.b) s c.in_ok-ranges.ensures c.requires.over_second

pub restricted-requires-clause-dims : goal.restricted-requires-clause-dims
restricted-requires-clause-dims c =
    let s : IsSome c.args.v.now.blocks = search rules in
    sym (count-ranges c.args.v.now.dims c.args.v.now.blocks c.in_ok-ranges.ranges s c.in_ok-ranges.ensures)

pub returns-clause-value : goal.returns-clause-value
returns-clause-value c =
    let trees = exprs_in c.args.core.now in
    let n = length c.in_ok-ranges.ranges in
    below-tested (expr_at trees c.args.a) (expr_at trees c.args.b) c.args.v.now c.in_ok-after.after c.in_ok-ranges.ranges (form_in n c.in_ok-form.form) (form_in n c.in_ok-and_one.and_one) (form_in n c.in_ok-minus_one.minus_one)
    c.in_ok-ranges.ensures c.in_ok-form.ensures.form (c.in_ok-minus_one.ensures.form n) c.in_ok-and_one.ensures.form c.in_ok-after.ensures.value
