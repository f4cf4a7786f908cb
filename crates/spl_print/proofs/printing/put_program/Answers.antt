use Rattle.spl_print.proofs.Programs.{program_wrote}
use Rattle.spl_print.proofs.printing.put_program.Goals as goal

pub returns : goal.returns
returns c =
    program_wrote c.args.source.now.tree.now c.args.source.now.bytes.now c.args.source.now.notes.now.points c.main_tree-main.result c.main_begin.result c.args.writer.now.out.items c.put_procs.new.writer.out.items c.put_body.new.writer.out.items c.args.writer.now.noted c.put_procs.new.writer.noted c.put_body.new.writer.noted
    c.main_tree-main.ensures.found c.main_begin.ensures.found c.in_ok-put_procs.ensures.wrote c.in_ok-put_body.ensures.wrote
