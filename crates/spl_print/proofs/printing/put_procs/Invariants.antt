use Rattle.std.proofs.Common.{take}
use Rattle.std.specs.List.{flat_map}
use Rattle.spl_tree.specs.Laws.{procs_in}
use Rattle.spl_print.specs.Canonical.{proc_lines}
use Rattle.spl_print.specs.Cursor.{IsPlaced}
use Rattle.spl_print.specs.Writing.{Wrote}
use Rattle.spl_print.proofs.printing.put_procs.Given as goal

-- The procedures so far.
abbrev pub invariant-loop-p : goal.invariant-loop-p
invariant-loop-p l = record {
  wrote : Wrote l.source.bytes.now l.source.notes.now.points (flat_map proc_lines (take l.p (procs_in l.source.tree.now))) l.fn.writer.out.items l.fn.writer.noted l.writer.out.items l.writer.noted;
  placed : IsPlaced l.source.bytes.now l.writer.cursor;
}
