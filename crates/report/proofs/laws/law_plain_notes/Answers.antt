use Rattle.report.proofs.ReadablePlain.{plain_notes}
use Rattle.report.proofs.laws.law_plain_notes.Goals as goal

pub returns : goal.returns
returns c = plain_notes
