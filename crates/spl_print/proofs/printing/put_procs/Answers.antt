use Rattle.std.proofs.Common.{◌≡◌, length, [], arith}
use Rattle.spl_tree.specs.Program.{ProcMeaning, empty}
use Rattle.spl_tree.specs.Laws.{procs_in}
use Rattle.spl_print.proofs.Programs.{one_more_proc}
use Rattle.spl_print.proofs.printing.put_procs.Goals as goal

pub loop-p-preserved : goal.loop-p-preserved
loop-p-preserved c =
    let x : ProcMeaning = record { name = record { name = []; at = 0 }; inputs = []; outputs = []; locals = []; begin = 0; body = empty } in
    let count : length (procs_in c.args.source.now.tree.now) ≡ length c.args.source.now.tree.now.procs = (c.law_tree.ensures.numbers c.args.source.now.tree.now c.law_tree.ensures.known).0.procs in
    record {
      wrote = one_more_proc c.args.source.now.bytes.now c.args.source.now.notes.now.points (procs_in c.args.source.now.tree.now) c.loop-p.p x c.args.writer.now.out.items c.loop-p.writer.out.items c.put_proc.new.writer.out.items c.args.writer.now.noted c.loop-p.writer.noted c.put_proc.new.writer.noted
          (omega (arith, count)) c.loop-p.invariant.wrote (c.in_ok-put_proc.ensures.wrote x);
      placed = c.in_ok-put_proc.ensures.placed;
    }
