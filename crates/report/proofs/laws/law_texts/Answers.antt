use Rattle.report.proofs.ReadableNames.{dimensions_named}
use Rattle.report.proofs.ReadableNotes.{readable_constraints, readable_notes}
use Rattle.report.proofs.laws.law_texts.Goals as goal

pub returns-clause-names : goal.returns-clause-names
returns-clause-names c = dimensions_named c.law_tokens_spelled.ensures

pub returns-clause-constraints : goal.returns-clause-constraints
returns-clause-constraints c = readable_constraints

pub returns-clause-notes : goal.returns-clause-notes
returns-clause-notes c = readable_notes
