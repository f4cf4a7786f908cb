use Rattle.spl_print.proofs.Programs.{proc_wrote}
use Rattle.spl_print.proofs.printing.put_proc.Goals as goal

pub returns-clause-wrote : goal.returns-clause-wrote
returns-clause-wrote c = λ x.
    proc_wrote c.args.source.now.tree.now c.law_tree.ensures.numbers c.law_tree.ensures.known c.args.source.now.bytes.now c.args.source.now.notes.now.points c.args.p x c.proc_tree-proc.result c.proc_place-place.result c.args.writer.now.out.items c.put_heading.new.out.items c.put_body.new.writer.out.items c.args.writer.now.noted c.put_body.new.writer.noted
    c.requires.there c.proc_tree-proc.ensures.found c.proc_place-place.ensures.found c.in_ok-put_heading.ensures c.in_ok-put_body.ensures.wrote
