use Rattle.std.proofs.Common.{◌≡◌, ◌++◌, length}
use Rattle.spl_tree.specs.Meaning.{exprs_in, expr_at}
use Rattle.spl_print.specs.Canonical.{expr_text}
use Rattle.spl_print.specs.Pieces.{PiecesFit, waiting_text, waiting_work}
use Rattle.spl_print.proofs.expression.put_expr.Given as goal

-- What is written and what waits make the text together.
abbrev pub invariant-loop-piece : goal.invariant-loop-piece
invariant-loop-piece l = record {
  text : l.out.items ++ waiting_text (exprs_in l.tree) l.waiting.items ≡ l.fn.out.items ++ expr_text (expr_at (exprs_in l.tree) l.fn.expr);
  fit : PiecesFit (length l.tree.exprs) l.waiting.items;
}

abbrev pub decreases-loop-piece : goal.decreases-loop-piece
decreases-loop-piece l = waiting_work (exprs_in l.tree) l.waiting.items
