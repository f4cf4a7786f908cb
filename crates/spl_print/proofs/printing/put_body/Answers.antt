use Rattle.std.proofs.Common.{drop}
use Rattle.spl_tree.specs.Meaning.{decls_in, decls_over, stmts_in, block_over}
use Rattle.spl_print.proofs.Programs.{body_nests, body_wrote}
use Rattle.spl_print.proofs.printing.put_body.Goals as goal

pub put_block-requires-clause-nests : goal.put_block-requires-clause-nests
put_block-requires-clause-nests c = body_nests c.args.source.now.tree.now c.law_tree.ensures.known c.args.body c.requires.body

pub returns-clause-wrote : goal.returns-clause-wrote
returns-clause-wrote c =
    body_wrote c.args.source.now.bytes.now c.args.source.now.notes.now.points (decls_over (decls_in c.args.source.now.tree.now) c.args.locals) c.args.begin (block_over c.args.source.now.tree.now.stmt_items (stmts_in c.args.source.now.tree.now) c.args.body)
    c.args.writer.now.out.items c.put_locals.new.out.items c.put_line.new.out.items c.put_block.new.writer.out.items c.put_line-2.new.out.items c.args.writer.now.noted c.put_block.new.writer.noted
    (c.in_ok-put_locals.ensures c.args.source.now.bytes.now (drop c.args.writer.now.noted c.args.source.now.notes.now.points)) c.in_ok-put_line.ensures c.in_ok-put_block.ensures.wrote c.in_ok-put_line-2.ensures
