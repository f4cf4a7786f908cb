use Rattle.spl_text.proofs.Cursors.{tokens_are_spelled}
use Rattle.spl_text.proofs.lexer.law_tokens_spelled.Goals as goal

pub returns : goal.returns
returns c = tokens_are_spelled
