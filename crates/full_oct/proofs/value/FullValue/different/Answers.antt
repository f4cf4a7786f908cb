use Rattle.spl_core.specs.Graph.{expr_at, exprs_in}
use Rattle.transfer_def.proofs.Conditions.{dims-below, different-is}
use Rattle.full_oct.proofs.value.FullValue.different.Goals as goal

pub joined-requires : goal.joined-requires
joined-requires c =
    let trees = exprs_in c.args.core.now in
    record { dims = dims-below (expr_at trees c.args.a) (expr_at trees c.args.b) (expr_at trees c.args.b) (expr_at trees c.args.a) c.args.self.now c.in_ok-below.below c.in_ok-above.above c.in_ok-below.ensures c.in_ok-above.ensures }

pub returns : goal.returns
returns c =
    let trees = exprs_in c.args.core.now in
    different-is (expr_at trees c.args.a) (expr_at trees c.args.b) c.args.self.now c.in_ok-below.below c.in_ok-above.above c.in_ok-either.either c.in_ok-below.ensures c.in_ok-above.ensures c.in_ok-either.ensures.value
