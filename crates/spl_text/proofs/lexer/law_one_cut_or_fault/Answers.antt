use Rattle.spl_text.proofs.Cursors.{one_reading}
use Rattle.spl_text.proofs.lexer.law_one_cut_or_fault.Goals as goal

pub returns : goal.returns
returns c = one_reading
