use Rattle.std.proofs.Common.{rules, ◌≡◌, Some, subst}
use Rattle.command_words.specs.Command.{asked_of}
use Rattle.command_words.specs.View.{asked_by}
use Rattle.interproc_top.specs.Call.{Asks, Call, WritesNothing}
use Rattle.interproc_top.proofs.Explained.{explains}
use Rattle.interproc_top.proofs.top.work.Goals as goal

pub returns-in-Err-clause-ends : goal.returns-in-Err-clause-ends
returns-in-Err-clause-ends g c =
    let call : Call = record {
      words = c.args.words.now;
      reading = record {
        files = g.F.Files.files c.args.files.now;
        open_before = g.F.Files.open_faults c.args.files.now;
        open_now = g.F.Files.open_faults c.output_of.new.files;
        read_before = g.F.Files.read_faults c.args.files.now;
        read_now = g.F.Files.read_faults c.output_of.new.files;
      };
      write_before = g.O.Sink.faults c.args.out.now;
      write_now = g.O.Sink.faults c.args.out.now;
      out_before = g.O.Sink.written c.args.out.now;
      out_now = g.O.Sink.written c.args.out.now;
    } in
    let asks : Asks call (asked_by c.in-Ok.command) = subst (λ words. asked_of words ≡ Some (asked_by c.in-Ok.command)) c.as_slice.ensures c.in-Ok.ensures in
    let nothing : WritesNothing call = search rules in
    explains call (asked_by c.in-Ok.command) c.in-Err.cause asks c.in-Err.ensures.stopped nothing
