use Rattle.std.proofs.Common.{◌+◌, ◌++◌, codes, refl, arith}
use Rattle.spl_tree.specs.Meaning.{name_of, names_in, named_in, names_over, exprs_in, expr_at, stmts_in, stmt_at, block_over, second_over}
use Rattle.spl_print.specs.Canonical.{expr_text, listed, names_text, targets_text, block_lines}
use Rattle.spl_print.proofs.Nested.{block_above, second_above, block_nests, second_nests, item_above, item_nests, node_fits, stmt_stands, one_more, if_wrote, enclosed, plain_wrote, nested_wrote}
use Rattle.spl_print.proofs.blocks.+nesting.Goals as goal

pub put_block-put_stmt-requires : goal.put_block-put_stmt-requires
put_block-put_stmt-requires t c =
    let nests = item_nests c.args.source.now.tree.now c.law_tree.ensures.known c.args.indent c.args.block c.loop-k.k c.stmt_item-id.result c.requires.nests (omega arith) c.stmt_item-id.ensures.found in
    let lower = item_above c.args.source.now.tree.now c.args.block c.loop-k.k c.stmt_item-id.result c.requires.nests.span (omega arith) c.stmt_item-id.ensures.found in
    (omega (arith, lower), (c.requires.small, (c.loop-k.invariant.placed, nests)))

pub put_block-loop-k-preserved : goal.put_block-loop-k-preserved
put_block-loop-k-preserved t c =
    let nests = item_nests c.args.source.now.tree.now c.law_tree.ensures.known c.args.indent c.args.block c.loop-k.k c.stmt_item-id.result c.requires.nests (omega arith) c.stmt_item-id.ensures.found in
    record {
      wrote = one_more c.args.source.now.tree.now c.law_tree.ensures.numbers c.law_tree.ensures.known c.args.source.now.bytes.now c.args.source.now.notes.now.points c.args.indent c.args.start c.args.block c.loop-k.k c.stmt_item-id.result c.stmt_place.result c.requires.nests.span (omega arith) c.stmt_item-id.ensures.found nests.there c.stmt_place.ensures.found
          c.args.writer.now.out.items c.loop-k.writer.out.items c.put_stmt.new.writer.out.items c.put_point-in-loop-k.new.writer.out.items c.args.writer.now.noted c.loop-k.writer.noted c.put_stmt.new.writer.noted c.put_point-in-loop-k.new.writer.noted
          c.loop-k.invariant.wrote c.in_ok-put_stmt.ensures.wrote c.in_ok-put_point-2.ensures.wrote;
      placed = c.in_ok-put_point-2.ensures.placed;
    }

pub put_if-returns-clause-wrote : goal.put_if-returns-clause-wrote
put_if-returns-clause-wrote t c =
    if_wrote c.args.source.now.bytes.now c.args.source.now.notes.now.points c.args.indent (expr_at (exprs_in c.args.source.now.tree.now) c.args.condition) (block_over c.args.source.now.tree.now.stmt_items (stmts_in c.args.source.now.tree.now) c.args.first) (second_over c.args.source.now.tree.now.stmt_items (stmts_in c.args.source.now.tree.now) c.args.second) c.args.at
    c.args.writer.now.out.items c.put_expr_line.new.out.items c.put_block.new.writer.out.items c.put_else.new.writer.out.items c.put_line.new.out.items c.args.writer.now.noted c.put_block.new.writer.noted c.put_else.new.writer.noted
    c.in_ok-put_expr_line.ensures c.in_ok-put_block.ensures.wrote c.in_ok-put_else.ensures.wrote c.in_ok-put_line.ensures

pub put_while-returns-clause-wrote : goal.put_while-returns-clause-wrote
put_while-returns-clause-wrote t c =
    enclosed c.args.source.now.bytes.now c.args.source.now.notes.now.points c.args.indent (codes "while " ++ (expr_text (expr_at (exprs_in c.args.source.now.tree.now) c.args.condition) ++ codes " do")) (codes "done;") (block_lines (c.args.indent + 2) c.args.start (block_over c.args.source.now.tree.now.stmt_items (stmts_in c.args.source.now.tree.now) c.args.body))
    c.args.writer.now.out.items c.put_expr_line.new.out.items c.put_block.new.writer.out.items c.put_line.new.out.items c.args.writer.now.noted c.put_block.new.writer.noted
    c.in_ok-put_expr_line.ensures c.in_ok-put_block.ensures.wrote c.in_ok-put_line.ensures

pub put_stmt-put_if-requires : goal.put_stmt-put_if-requires
put_stmt-put_if-requires t c =
    let fits = node_fits c.args.source.now.tree.now c.law_tree.ensures.known c.args.id _ c.requires.nests.there c.in-If.ensures.found in
    let first = block_above c.args.source.now.tree.now c.args.id.0 c.in-If.first fits.1 in
    let second = second_above c.args.source.now.tree.now c.args.id.0 c.in-If.second fits.2 in
    (omega (arith, first, second), (c.requires.small, (c.requires.placed, (fits.0, (block_nests c.args.source.now.tree.now (c.args.indent + 2) c.args.id.0 c.in-If.first (omega arith) fits.1, (second_nests c.args.source.now.tree.now (c.args.indent + 2) c.args.id.0 c.in-If.second (omega arith) fits.2))))))

pub put_stmt-put_while-requires : goal.put_stmt-put_while-requires
put_stmt-put_while-requires t c =
    let fits = node_fits c.args.source.now.tree.now c.law_tree.ensures.known c.args.id _ c.requires.nests.there c.in-While.ensures.found in
    let body = block_above c.args.source.now.tree.now c.args.id.0 c.in-While.body fits.1 in
    (omega (arith, body), (c.requires.small, (c.requires.placed, (fits.0, (block_nests c.args.source.now.tree.now (c.args.indent + 2) c.args.id.0 c.in-While.body (omega arith) fits.1)))))

pub put_stmt-returns-in-Skip-clause-wrote : goal.put_stmt-returns-in-Skip-clause-wrote
put_stmt-returns-in-Skip-clause-wrote t c =
    plain_wrote c.put_line.result c.args.source.now.bytes.now c.args.source.now.notes.now.points c.args.indent (stmt_at (stmts_in c.args.source.now.tree.now) c.args.id) _ (codes "skip;") c.args.writer.now.out.items c.put_line.new.out.items c.args.writer.now.noted
    (stmt_stands c.args.source.now.tree.now c.law_tree.ensures.numbers c.law_tree.ensures.known c.args.id _ c.stmt_place-at.result c.requires.nests.there c.in-Skip.ensures.found c.stmt_place-at.ensures.found) refl c.put_line.ensures

pub put_stmt-returns-in-Halt-clause-wrote : goal.put_stmt-returns-in-Halt-clause-wrote
put_stmt-returns-in-Halt-clause-wrote t c =
    plain_wrote c.put_line-in-Halt.result c.args.source.now.bytes.now c.args.source.now.notes.now.points c.args.indent (stmt_at (stmts_in c.args.source.now.tree.now) c.args.id) _ (codes "halt;") c.args.writer.now.out.items c.put_line-in-Halt.new.out.items c.args.writer.now.noted
    (stmt_stands c.args.source.now.tree.now c.law_tree.ensures.numbers c.law_tree.ensures.known c.args.id _ c.stmt_place-at.result c.requires.nests.there c.in-Halt.ensures.found c.stmt_place-at.ensures.found) refl c.put_line-in-Halt.ensures

pub put_stmt-returns-in-Fail-clause-wrote : goal.put_stmt-returns-in-Fail-clause-wrote
put_stmt-returns-in-Fail-clause-wrote t c =
    plain_wrote c.put_line-in-Fail.result c.args.source.now.bytes.now c.args.source.now.notes.now.points c.args.indent (stmt_at (stmts_in c.args.source.now.tree.now) c.args.id) _ (codes "fail;") c.args.writer.now.out.items c.put_line-in-Fail.new.out.items c.args.writer.now.noted
    (stmt_stands c.args.source.now.tree.now c.law_tree.ensures.numbers c.law_tree.ensures.known c.args.id _ c.stmt_place-at.result c.requires.nests.there c.in-Fail.ensures.found c.stmt_place-at.ensures.found) refl c.put_line-in-Fail.ensures

pub put_stmt-returns-in-Assume-clause-wrote : goal.put_stmt-returns-in-Assume-clause-wrote
put_stmt-returns-in-Assume-clause-wrote t c =
    plain_wrote c.put_expr_line.result c.args.source.now.bytes.now c.args.source.now.notes.now.points c.args.indent (stmt_at (stmts_in c.args.source.now.tree.now) c.args.id) _ (codes "assume " ++ (expr_text (expr_at (exprs_in c.args.source.now.tree.now) c.in-Assume.condition) ++ codes ";")) c.args.writer.now.out.items c.put_expr_line.new.out.items c.args.writer.now.noted
    (stmt_stands c.args.source.now.tree.now c.law_tree.ensures.numbers c.law_tree.ensures.known c.args.id _ c.stmt_place-at.result c.requires.nests.there c.in-Assume.ensures.found c.stmt_place-at.ensures.found) refl c.put_expr_line.ensures

pub put_stmt-returns-in-Assign-clause-wrote : goal.put_stmt-returns-in-Assign-clause-wrote
put_stmt-returns-in-Assign-clause-wrote t c =
    plain_wrote c.put_assign_line.result c.args.source.now.bytes.now c.args.source.now.notes.now.points c.args.indent (stmt_at (stmts_in c.args.source.now.tree.now) c.args.id) _ (name_of (names_in c.args.source.now.tree.now) c.in-Assign.target ++ (codes " = " ++ (expr_text (expr_at (exprs_in c.args.source.now.tree.now) c.in-Assign.expr) ++ codes ";"))) c.args.writer.now.out.items c.put_assign_line.new.out.items c.args.writer.now.noted
    (stmt_stands c.args.source.now.tree.now c.law_tree.ensures.numbers c.law_tree.ensures.known c.args.id _ c.stmt_place-at.result c.requires.nests.there c.in-Assign.ensures.found c.stmt_place-at.ensures.found) refl c.put_assign_line.ensures

pub put_stmt-returns-in-Call-clause-wrote : goal.put_stmt-returns-in-Call-clause-wrote
put_stmt-returns-in-Call-clause-wrote t c =
    plain_wrote c.put_call_line.result c.args.source.now.bytes.now c.args.source.now.notes.now.points c.args.indent (stmt_at (stmts_in c.args.source.now.tree.now) c.args.id) _ (targets_text (names_text (names_over (named_in c.args.source.now.tree.now) c.in-Call.targets)) ++ (codes " = " ++ (name_of (names_in c.args.source.now.tree.now) c.in-Call.called ++ (codes "(" ++ (listed (names_text (names_over (named_in c.args.source.now.tree.now) c.in-Call.args)) ++ codes ");"))))) c.args.writer.now.out.items c.put_call_line.new.out.items c.args.writer.now.noted
    (stmt_stands c.args.source.now.tree.now c.law_tree.ensures.numbers c.law_tree.ensures.known c.args.id _ c.stmt_place-at.result c.requires.nests.there c.in-Call.ensures.found c.stmt_place-at.ensures.found) refl c.put_call_line.ensures

pub put_stmt-returns-in-If-clause-wrote : goal.put_stmt-returns-in-If-clause-wrote
put_stmt-returns-in-If-clause-wrote t c =
    nested_wrote c.put_if.result c.args.source.now.bytes.now c.args.source.now.notes.now.points c.args.indent (stmt_at (stmts_in c.args.source.now.tree.now) c.args.id) _ c.args.writer.now.out.items c.put_if.new.writer.out.items c.args.writer.now.noted c.put_if.new.writer.noted
    (stmt_stands c.args.source.now.tree.now c.law_tree.ensures.numbers c.law_tree.ensures.known c.args.id _ c.stmt_place-at.result c.requires.nests.there c.in-If.ensures.found c.stmt_place-at.ensures.found) c.put_if.ensures.wrote

pub put_stmt-returns-in-While-clause-wrote : goal.put_stmt-returns-in-While-clause-wrote
put_stmt-returns-in-While-clause-wrote t c =
    nested_wrote c.put_while.result c.args.source.now.bytes.now c.args.source.now.notes.now.points c.args.indent (stmt_at (stmts_in c.args.source.now.tree.now) c.args.id) _ c.args.writer.now.out.items c.put_while.new.writer.out.items c.args.writer.now.noted c.put_while.new.writer.noted
    (stmt_stands c.args.source.now.tree.now c.law_tree.ensures.numbers c.law_tree.ensures.known c.args.id _ c.stmt_place-at.result c.requires.nests.there c.in-While.ensures.found c.stmt_place-at.ensures.found) c.put_while.ensures.wrote
