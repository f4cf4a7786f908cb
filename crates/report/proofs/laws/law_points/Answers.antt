use Rattle.report.proofs.Lines.{lines_are_points, as_many_lines}
use Rattle.report.proofs.Shapes.{dimensions_have_names, fails_are_at_points}
use Rattle.report.proofs.laws.law_points.Goals as goal

pub returns-clause-lines : goal.returns-clause-lines
returns-clause-lines c = lines_are_points

pub returns-clause-as_many : goal.returns-clause-as_many
returns-clause-as_many c = as_many_lines

pub returns-clause-names : goal.returns-clause-names
returns-clause-names c = dimensions_have_names

pub returns-clause-fails : goal.returns-clause-fails
returns-clause-fails c = fails_are_at_points
