use Rattle.std.proofs.Common.{◌∙◌, map, arith}
use Rattle.spl_tree.specs.Meaning.{program_of}
use Rattle.control_points.specs.CoreOf.{core_of}
use Rattle.report.specs.Points.{for_line}
use Rattle.report.specs.Report.{point_text}
use Rattle.report.specs.Values.{value_in}
use Rattle.report.proofs.Steps.{one_more}
use Rattle.report.proofs.Noting.{all_lines}
use Rattle.report.proofs.report.note_points.Goals as goal

pub loop-point-preserved : goal.loop-point-preserved
loop-point-preserved g c = record {
  points = one_more (for_line (core_of (program_of c.args.checked.now)) (point_text c.args.full (value_in (map g.D.Domain.meaning c.args.values.now)) (program_of c.args.checked.now)))
      c.loop-point.point c.args.notes.now.points c.loop-point.notes.points _ c.loop-point.invariant.points c.in_ok-note_point.ensures.points;
  closing = c.in_ok-note_point.ensures.closing ∙ c.loop-point.invariant.closing;
}

pub returns-clause-points : goal.returns-clause-points
returns-clause-points g c =
    let p = program_of c.args.checked.now in
    all_lines c.args.core.now (core_of p) (point_text c.args.full (value_in (map g.D.Domain.meaning c.args.values.now)) p) c.args.notes.now.points c.loop-point.notes.points c.loop-point.point
    c.requires.core (omega arith) c.loop-point.invariant.points
