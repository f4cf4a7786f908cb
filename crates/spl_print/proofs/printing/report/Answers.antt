use Rattle.spl_tree.specs.Meaning.{program_of}
use Rattle.spl_print.proofs.Programs.{report_is}
use Rattle.spl_print.proofs.printing.report.Goals as goal

pub returns : goal.returns
returns c =
    report_is c.args.bytes.now (program_of c.args.tree.now) c.args.notes.now c.new.result.items c.put_program.new.writer.out.items c.put_closing.new.out.items c.put_program.new.writer.noted
    c.new.ensures.items c.in_ok-put_program.ensures c.in_ok-put_closing.ensures
