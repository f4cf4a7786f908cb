use Rattle.spl_core.specs.Graph.{expr_at, exprs_in}
use Rattle.dec_oct.specs.Value.{octagon}
use Rattle.transfer_def.proofs.Conditions.{dims-below, different-is}
use Rattle.dec_transfer.proofs.testing.different.Goals as goal

pub join-requires : goal.join-requires
join-requires c =
    let trees = exprs_in c.args.core.now in
    let a = expr_at trees c.args.a in
    let b = expr_at trees c.args.b in
    dims-below a b b a (octagon c.args.v.now) (octagon c.in_ok-less.less) (octagon c.in_ok-more.more) c.in_ok-less.ensures.value c.in_ok-more.ensures.value

pub returns-clause-value : goal.returns-clause-value
returns-clause-value c =
    let trees = exprs_in c.args.core.now in
    different-is (expr_at trees c.args.a) (expr_at trees c.args.b) (octagon c.args.v.now) (octagon c.in_ok-less.less) (octagon c.in_ok-more.more) (octagon c.in_ok-either.either) c.in_ok-less.ensures.value c.in_ok-more.ensures.value c.in_ok-either.ensures.value

pub returns-clause-marks : goal.returns-clause-marks
returns-clause-marks c = record {
  less = c.in_ok-less.less;
  more = c.in_ok-more.more;
  below = record { value = c.in_ok-less.ensures.value; marks = c.in_ok-less.ensures.marks };
  above = record { value = c.in_ok-more.ensures.value; marks = c.in_ok-more.ensures.marks };
  join = record { first = c.known.ensures; second = c.known-2.ensures; value = c.in_ok-either.ensures.value; marks = c.in_ok-either.ensures.marks };
}
