use Rattle.std.proofs.Common.{◌+◌, ◌*◌, max, take}
use Rattle.spl_tree.specs.Program.{empty}
use Rattle.spl_tree.specs.Meaning.{span_of, stmts_in, block_after}
use Rattle.spl_print.specs.Canonical.{block_lines}
use Rattle.spl_print.specs.Cursor.{IsPlaced}
use Rattle.spl_print.specs.Nesting.{above_block, above_second}
use Rattle.spl_print.specs.Writing.{Wrote}
use Rattle.spl_print.proofs.blocks.+nesting.Given as goal

-- Statements in a block have lower numbers; the last summand orders the calls on one level.
abbrev pub decreases-put_block : goal.decreases-put_block
decreases-put_block l = 5 * above_block l.source.now.tree.now l.block

abbrev pub decreases-put_else : goal.decreases-put_else
decreases-put_else l = 5 * above_second l.source.now.tree.now l.second + 1

abbrev pub decreases-put_if : goal.decreases-put_if
decreases-put_if l = 5 * max (above_block l.source.now.tree.now l.first) (above_second l.source.now.tree.now l.second) + 2

abbrev pub decreases-put_stmt : goal.decreases-put_stmt
decreases-put_stmt l = 5 * l.id.0 + 4

abbrev pub decreases-put_while : goal.decreases-put_while
decreases-put_while l = 5 * above_block l.source.now.tree.now l.body + 2

-- The first point and the statements so far, each with the point after it.
abbrev pub invariant-put_block-loop-k : goal.invariant-put_block-loop-k
invariant-put_block-loop-k l = record {
  wrote : Wrote l.source.bytes.now l.source.notes.now.points
      (block_lines l.fn.indent l.fn.start (block_after (stmts_in l.source.tree.now) empty (take l.k (span_of l.source.tree.now.stmt_items l.fn.block.first l.fn.block.count))))
      l.fn.writer.out.items l.fn.writer.noted l.writer.out.items l.writer.noted;
  placed : IsPlaced l.source.bytes.now l.writer.cursor;
}
