use Rattle.spl_text.proofs.Cursors.{tokens_stand_in_order}
use Rattle.spl_text.proofs.lexer.law_tokens_in_order.Goals as goal

pub returns : goal.returns
returns c = tokens_stand_in_order
