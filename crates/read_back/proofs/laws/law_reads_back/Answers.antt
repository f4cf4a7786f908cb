use Rattle.read_back.proofs.ReadingBack.{reads_back}
use Rattle.read_back.proofs.laws.law_reads_back.Goals as goal

pub returns : goal.returns
returns c = reads_back c.law_tokens_spelled.ensures
