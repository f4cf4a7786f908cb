use Rattle.std.proofs.Common.{◌≡◌, ◌++◌, map}
use Rattle.std.specs.List.{flat_map, range_with_len}
use Rattle.spl_tree.specs.Meaning.{program_of}
use Rattle.control_points.specs.CoreOf.{core_of}
use Rattle.report.specs.Points.{for_line}
use Rattle.report.specs.Report.{point_text}
use Rattle.report.specs.Values.{value_in}
use Rattle.report.proofs.report.note_points.Given as goal

-- The texts of the points so far stand behind what was there.
abbrev pub invariant-loop-point : goal.invariant-loop-point
invariant-loop-point g l = record {
  points : l.notes.points ≡ l.fn.notes.points
      ++ flat_map (for_line (core_of (program_of l.checked)) (point_text l.full (value_in (map g.D.Domain.meaning l.values)) (program_of l.checked))) (range_with_len 0 l.point);
  closing : l.notes.closing ≡ l.fn.notes.closing;
}
