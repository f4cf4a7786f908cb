use Rattle.std.proofs.Common.{length}
use Rattle.spl_print.proofs.Waiting.{last_fits, turn_text, turn_fits, turn_work}
use Rattle.spl_print.proofs.expression.put_expr.Goals as goal

pub put_piece-requires : goal.put_piece-requires
put_piece-requires c = last_fits (length c.args.tree.now.exprs) c.loop-piece.waiting.items c.pop.new.self.items c.in-Some.piece c.in-Some.ensures.items c.loop-piece.invariant.fit

pub loop-piece-preserved : goal.loop-piece-preserved
loop-piece-preserved c = record {
  text = turn_text c.args.tree.now c.in-Some.piece c.loop-piece.waiting.items c.pop.new.self.items c.put_piece.new.waiting.items _ c.loop-piece.out.items c.put_piece.new.out.items c.in-Some.ensures.items c.in_ok-put_piece.ensures c.loop-piece.invariant.text;
  fit = turn_fits c.args.tree.now c.in-Some.piece c.loop-piece.waiting.items c.pop.new.self.items c.put_piece.new.waiting.items c.loop-piece.out.items c.put_piece.new.out.items c.in-Some.ensures.items c.in_ok-put_piece.ensures c.loop-piece.invariant.fit;
}

pub loop-piece-smaller : goal.loop-piece-smaller
loop-piece-smaller c = turn_work c.args.tree.now c.in-Some.piece c.loop-piece.waiting.items c.pop.new.self.items c.put_piece.new.waiting.items c.loop-piece.out.items c.put_piece.new.out.items c.in-Some.ensures.items c.in_ok-put_piece.ensures
