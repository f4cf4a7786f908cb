use Rattle.std.proofs.Common.{sym, ap, ◌∙◌, arith}
use Rattle.dec_oct.proofs.Walks.{IsWalked, walk-start, walk-yes, walk-no, done-row, walk-end, chains-size}
use Rattle.dec_oct.proofs.walk.chain_labels.Goals.{then-joins, else-joins}
use Rattle.dec_oct.proofs.walk.chain_labels.Goals as goal

pub rows-init : goal.rows-init
rows-init c = walk-start c.vars-n.result c.args.m.now _ c.in_ok-labels.ensures.size c.in_ok-labels.ensures.own

pub columns-preserved : goal.columns-preserved
columns-preserved c =
    let n = c.vars-n.result in
    let m = c.args.m.now in
    let s : IsWalked n m = record { rows = sym c.vars-n.ensures.rows; coherent = c.shape.ensures.coherent } in
    elim c.if-joins.branch [
      | then-joins w ↦ walk-yes n m c.columns.labels.items _ c.rows.u c.columns.w s c.columns.invariant (c.joins.ensures.yes w.if-joins.true) (ap (λ x. x.items) w.labels-is ∙ w.join_labels.ensures)
      | else-joins w ↦ walk-no n m c.columns.labels.items _ c.rows.u c.columns.w c.columns.invariant (c.joins.ensures.no w.if-joins.false) (ap (λ x. x.items) w.labels-is)
    ]

pub rows-preserved : goal.rows-preserved
rows-preserved c = (c.columns.invariant.0, done-row c.vars-n.result c.args.m.now _ c.rows.u c.columns.w (sym c.vars-n.ensures.rows) c.columns.invariant.1 (omega arith))

pub returns : goal.returns
returns c = λ k e. chains-size k c.vars-n.result c.args.m.now _ c.vars-n.ensures.rows e (walk-end c.vars-n.result c.args.m.now _ c.rows.u (sym c.vars-n.ensures.rows) c.rows.invariant.0 c.rows.invariant.1 (omega arith))
