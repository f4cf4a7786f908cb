use Rattle.report.proofs.Calm.{reports_read_back}
use Rattle.report.proofs.laws.law_reads_back.Goals as goal

pub returns : goal.returns
returns c = reports_read_back c.law_tokens_spelled.ensures c.law_reads_back.ensures
