use Rattle.std.proofs.Common.{◌≡◌, ◌++◌, map, take}
use Rattle.report.specs.Report.{fail_text}
use Rattle.report.specs.Values.{value_in}
use Rattle.report.proofs.report.note_fails.Given as goal

-- The lines of the fails so far stand behind what was there.
abbrev pub invariant-loop-fail : goal.invariant-loop-fail
invariant-loop-fail g l = record {
  closing : l.notes.closing ≡ l.fn.notes.closing ++ map (fail_text l.bytes (value_in (map g.D.Domain.meaning l.values))) (take l.fail-index l.fails);
  points : l.notes.points ≡ l.fn.notes.points;
}
